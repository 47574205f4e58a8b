use Rattle.std.proofs.Common.{Bool}
use Rattle.upon_tag_parser.specs.declared.compile.parse.brackets.Step.TheVariants as stepped
use Rattle.upon_tag_parser.specs.Brackets.{place_of, IsStep, ReadsOn, ReadsStuck}
use Rattle.upon_tag_parser.proofs.Stuck.{stuck_same, ok_map}
use Rattle.upon_tag_parser.proofs.Stops.{StopsBase}
use Rattle.upon_tag_parser.proofs.Steps.Stacks as stacks
use Rattle.upon_tag_parser.proofs.compile.parse.path.TagParser.enter.Goals as goal

pub returns-clause-step : goal.returns-clause-step
returns-clause-step c =
    let new = c.start_base.new.code.items in
    ok_map c.start_base.result
    (λ r. (whole : Bool) → IsStep c.args.self.now.source.now whole r.0 (place_of c.args.tokens.now c.args.code.now.items) (place_of r.1.now new))
    (λ r. ReadsOn c.args.self.now.source.now c.args.stack.now.items (stepped.Opens c.args.top) (place_of c.args.tokens.now c.args.code.now.items) c.push.new.self.items r.0 (place_of r.1.now new))
    (λ r f from h. stacks.entered c.args.self.now.source.now c.args.stack.now.items c.push.new.self.items c.args.top r.0 from (place_of c.args.tokens.now c.args.code.now.items) (place_of r.1.now new) c.in_ok-push.ensures.items h f)
    c.start_base.ensures.step

pub returns-clause-stuck : goal.returns-clause-stuck
returns-clause-stuck c =
    stuck_same c.start_base.result (StopsBase c.args.self.now.source.now c.args.tokens.now) (ReadsStuck c.args.self.now.source.now c.args.stack.now.items (stepped.Opens c.args.top) (place_of c.args.tokens.now c.args.code.now.items))
    (λ w left f from h. stacks.entered_stuck c.args.self.now.source.now c.args.stack.now.items c.args.top from (place_of c.args.tokens.now c.args.code.now.items) w left h (λ whole a ps starts. f a _ starts))
    c.start_base.ensures.stuck
