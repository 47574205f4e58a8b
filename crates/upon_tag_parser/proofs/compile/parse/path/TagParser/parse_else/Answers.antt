use Rattle.std.proofs.Common.{List, [], ◌∷◌, refl, sym}
use Rattle.std.proofs.lemmas.Result.{err_from_is_err_and}
use Rattle.upon_compiler.specs.Program.{program_view}
use Rattle.upon_language_spec.specs.Parts.{Part, condition, end_block, else_rest}
use Rattle.upon_tag_parser.specs.TagTokens.{lexemes_of}
use Rattle.upon_tag_parser.specs.Wants.{wanted_of}
use Rattle.upon_tag_parser.specs.TagParsing.{IsStuck}
use Rattle.upon_tag_parser.proofs.TagTokens.{rest_then}
use Rattle.upon_tag_parser.proofs.Stuck.{handed_on}
use Rattle.std.proofs.Common.{codes, append-nil}
use Rattle.upon_language_spec.proofs.Wanted.ExpressionsLead.{leads_key}
use Rattle.upon_tag_parser.specs.BlockTags.{else_if_tag, else_tag}
use Rattle.upon_tag_parser.proofs.Stuck.{stuck_then}
use Rattle.upon_tag_parser.proofs.Tags.{else_reads, else_if_reads}
use Rattle.upon_tag_parser.proofs.compile.parse.path.TagParser.parse_else.Goals as goal

pub returns-in_err-not-in-Some-clause-stuck : goal.returns-in_err-not-in-Some-clause-stuck
returns-in_err-not-in-Some-clause-stuck c =
    handed_on c.from_residual.result c.in_err-not-in-Some.field-0.0 (λ w left. (parts : List Part) → IsStuck c.args.self.now.source.now (condition ∷ parts) c.in-Some.rest.now w left) (IsStuck c.args.self.now.source.now (else_rest ∷ []) c.args.tokens.now)
    (err_from_is_err_and c.from_residual.result c.from_residual.ensures.1)
    (λ w left h. stuck_then c.args.self.now.source.now (else_rest ∷ []) (condition ∷ end_block ∷ []) (lexemes_of c.args.tokens.now) (lexemes_of c.in-Some.rest.now) (lexemes_of left) (wanted_of w) (leads_key c.args.self.now.source.now (codes "if") c.in-Some.ensures.word refl) (h (end_block ∷ [])))
    c.in_err-not-in-Some.ensures.stuck

pub returns-in-None-clause-tag : goal.returns-in-None-clause-tag
returns-in-None-clause-tag c before g =
    record { tree = else_tag; reads = else_reads c.args.self.now.source.now before (lexemes_of c.args.tokens.now) g c.in-None.ensures.word; keeps = refl; code = sym (append-nil (program_view c.args.code.now.items)) }

pub returns-in_ok-not-in-Some-clause-tag : goal.returns-in_ok-not-in-Some-clause-tag
returns-in_ok-not-in-Some-clause-tag c before g =
    let x = c.in_ok-not-in-Some.ensures.condition in
    let negated = c.in_ok-not-in-Some.not in
    record {
      tree = else_if_tag negated x.tree;
      reads = else_if_reads c.args.self.now.source.now negated x.tree before (lexemes_of c.args.tokens.now) (lexemes_of c.in-Some.rest.now) (lexemes_of c.in_ok-not-in-Some.left.now) g (_, c.in-Some.ensures.word) x.reads;
      keeps = (x.tree, refl);
      code = x.code;
    }

pub returns-in_ok-not-in-Some-clause-rest : goal.returns-in_ok-not-in-Some-clause-rest
returns-in_ok-not-in-Some-clause-rest c =
    rest_then (lexemes_of c.args.tokens.now) (lexemes_of c.in-Some.rest.now) (lexemes_of c.in_ok-not-in-Some.left.now) c.in-Some.ensures.rest c.in_ok-not-in-Some.ensures.rest
