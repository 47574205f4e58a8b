use Rattle.std.proofs.Common.{subst, true}
use Rattle.std.proofs.lemmas.Result.{err_from_is_err_and}
use Rattle.upon_tag_parser.proofs.Stops.{StopsBase}
use Rattle.upon_tag_parser.proofs.Stuck.{handed_on}
use Rattle.upon_tag_parser.proofs.TagTokens.{rest_then, tokens_rest}
use Rattle.upon_tag_parser.specs.TagTokens.{lexemes_of}
use Rattle.upon_tag_parser.specs.Brackets.{StuckFrom}
use Rattle.upon_tree.specs.Opened.{AreTreesRead, ReadsTreeStuck}
use Rattle.upon_tree.specs.declared.opened.Step.TheVariants as stepped
use Rattle.upon_tree.proofs.Stacks as stacks
use Rattle.upon_tree.specs.declared.opened.Step.{Step}
use Rattle.upon_tree.proofs.expression.TreeReader.expression.Goals as goal

pub returns-in_err-last-clause-stuck : goal.returns-in_err-last-clause-stuck
returns-in_err-last-clause-stuck c =
    handed_on c.from_residual.result c.in_err-last.field-0.0 (StopsBase c.args.self.now.parser.source.now c.args.tokens.now) (StuckFrom c.args.self.now.parser.source.now true (lexemes_of c.args.tokens.now))
    (err_from_is_err_and c.from_residual.result c.from_residual.ensures.1)
    (λ w left f a ps starts. f a _ starts)
    c.in_err-last.ensures.stuck

pub steps-init : goal.steps-init
steps-init c =
    record {
      read = stacks.first_read c.args.self.now.parser.source.now c.new-stack.result.items c.in_ok-last.last (lexemes_of c.args.tokens.now) (lexemes_of c.in_ok-last.left.now) c.new-stack.ensures.items c.in_ok-last.ensures.step;
      rest = c.in_ok-last.ensures.rest;
    }

pub returns-in-Whole-clause-expression : goal.returns-in-Whole-clause-expression
returns-in-Whole-clause-expression c =
    stacks.whole_read c.args.self.now.parser.source.now c.steps.stack.items c.in-Whole.expr (lexemes_of c.args.tokens.now) (lexemes_of c.steps.left.now) (subst (λ (x : Step). AreTreesRead c.args.self.now.parser.source.now c.steps.stack.items x (lexemes_of c.args.tokens.now) (lexemes_of c.steps.left.now)) c.in-Whole.is c.steps.invariant.read)

pub returns-in_err-next-in-Opens-clause-stuck : goal.returns-in_err-next-in-Opens-clause-stuck
returns-in_err-next-in-Opens-clause-stuck c =
    handed_on c.from_residual-in_err-next-in-Opens.result c.in_err-next-in-Opens.field-0.0 (ReadsTreeStuck c.args.self.now.parser.source.now c.steps.stack.items (stepped.Opens c.in-Opens.top) (lexemes_of c.steps.left.now)) (StuckFrom c.args.self.now.parser.source.now true (lexemes_of c.args.tokens.now))
    (err_from_is_err_and c.from_residual-in_err-next-in-Opens.result c.from_residual-in_err-next-in-Opens.ensures.1)
    (λ w left f. f (lexemes_of c.args.tokens.now) (subst (λ (x : Step). AreTreesRead c.args.self.now.parser.source.now c.steps.stack.items x (lexemes_of c.args.tokens.now) (lexemes_of c.steps.left.now)) c.in-Opens.is c.steps.invariant.read))
    c.in_err-next-in-Opens.ensures.stuck

pub steps-preserved-in-Opens : goal.steps-preserved-in-Opens
steps-preserved-in-Opens c =
    record {
      read = c.in_ok-next-in-Opens.ensures.step (lexemes_of c.args.tokens.now) (subst (λ (x : Step). AreTreesRead c.args.self.now.parser.source.now c.steps.stack.items x (lexemes_of c.args.tokens.now) (lexemes_of c.steps.left.now)) c.in-Opens.is c.steps.invariant.read);
      rest = rest_then (lexemes_of c.args.tokens.now) (lexemes_of c.steps.left.now) (lexemes_of c.in_ok-next-in-Opens.rest.now) c.steps.invariant.rest c.in_ok-next-in-Opens.ensures.rest;
    }

pub enter-requires : goal.enter-requires
enter-requires c =
    record { tokens = tokens_rest c.args.self.now.parser.source.now c.args.tokens.now c.steps.left.now c.requires.tokens c.steps.invariant.rest }

pub leave-requires : goal.leave-requires
leave-requires c =
    record { tokens = tokens_rest c.args.self.now.parser.source.now c.args.tokens.now c.steps.left.now c.requires.tokens c.steps.invariant.rest }

pub returns-in_err-next-in-Base-clause-stuck : goal.returns-in_err-next-in-Base-clause-stuck
returns-in_err-next-in-Base-clause-stuck c =
    handed_on c.from_residual-in_err-next-in-Base.result c.in_err-next-in-Base.field-0.0 (ReadsTreeStuck c.args.self.now.parser.source.now c.steps.stack.items (stepped.Base c.in-Base.base) (lexemes_of c.steps.left.now)) (StuckFrom c.args.self.now.parser.source.now true (lexemes_of c.args.tokens.now))
    (err_from_is_err_and c.from_residual-in_err-next-in-Base.result c.from_residual-in_err-next-in-Base.ensures.1)
    (λ w left f. f (lexemes_of c.args.tokens.now) (subst (λ (x : Step). AreTreesRead c.args.self.now.parser.source.now c.steps.stack.items x (lexemes_of c.args.tokens.now) (lexemes_of c.steps.left.now)) c.in-Base.is c.steps.invariant.read))
    c.in_err-next-in-Base.ensures.stuck

pub steps-preserved : goal.steps-preserved
steps-preserved c =
    record {
      read = c.in_ok-next-in-Base.ensures.step (lexemes_of c.args.tokens.now) (subst (λ (x : Step). AreTreesRead c.args.self.now.parser.source.now c.steps.stack.items x (lexemes_of c.args.tokens.now) (lexemes_of c.steps.left.now)) c.in-Base.is c.steps.invariant.read);
      rest = rest_then (lexemes_of c.args.tokens.now) (lexemes_of c.steps.left.now) (lexemes_of c.in_ok-next-in-Base.rest.now) c.steps.invariant.rest c.in_ok-next-in-Base.ensures.rest;
    }
