use Rattle.std.proofs.Common.{Bool}
use Rattle.upon_tag_parser.proofs.Stops.{StopsBase}
use Rattle.upon_tag_parser.proofs.Stuck.{stuck_same, ok_map}
use Rattle.upon_tag_parser.specs.TagTokens.{lexemes_of}
use Rattle.upon_tree.specs.Opened.{IsTreeStep, ReadsTreeOn, ReadsTreeStuck}
use Rattle.upon_tree.specs.declared.opened.Step.TheVariants as stepped
use Rattle.upon_tree.proofs.Stacks as stacks
use Rattle.upon_tree.proofs.expression.TreeReader.enter.Goals as goal

pub returns-clause-step : goal.returns-clause-step
returns-clause-step c =
    ok_map c.start_base.result
    (λ r. (whole : Bool) → IsTreeStep c.args.self.now.parser.source.now whole r.0 (lexemes_of c.args.tokens.now) (lexemes_of r.1.now))
    (λ r. ReadsTreeOn c.args.self.now.parser.source.now c.args.stack.now.items (stepped.Opens c.args.top) (lexemes_of c.args.tokens.now) c.push.new.self.items r.0 (lexemes_of r.1.now))
    (λ r f from h. stacks.entered c.args.self.now.parser.source.now c.args.stack.now.items c.push.new.self.items c.args.top r.0 from (lexemes_of c.args.tokens.now) (lexemes_of r.1.now) c.in_ok-push.ensures.items h f)
    c.start_base.ensures.step

pub returns-clause-stuck : goal.returns-clause-stuck
returns-clause-stuck c =
    stuck_same c.start_base.result (StopsBase c.args.self.now.parser.source.now c.args.tokens.now) (ReadsTreeStuck c.args.self.now.parser.source.now c.args.stack.now.items (stepped.Opens c.args.top) (lexemes_of c.args.tokens.now))
    (λ w left f from h. stacks.entered_stuck c.args.self.now.parser.source.now c.args.stack.now.items c.args.top from (lexemes_of c.args.tokens.now) w left h (λ whole a ps starts. f a _ starts))
    c.start_base.ensures.stuck
