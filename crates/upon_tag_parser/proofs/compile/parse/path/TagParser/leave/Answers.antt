use Rattle.std.proofs.Common.{◌≡◌, ◌∙◌, [], None, sym}
use Rattle.upon_tag_parser.specs.declared.compile.parse.brackets.Step.TheVariants as stepped
use Rattle.upon_tag_parser.specs.Brackets.{place_of, OpenGoesOnAt, OpenStuckAt, PartGoesOn, PartStuck, ReadsOn, ReadsStuck}
use Rattle.upon_tag_parser.proofs.Stuck.{stuck_same, ok_map}
use Rattle.upon_tag_parser.proofs.Steps.Stacks as stacks
use Rattle.std.proofs.lemmas.List.{nil_from_length}
use Rattle.upon_tag_parser.proofs.compile.parse.path.TagParser.leave.Goals as goal

pub after_base-requires-clause-fits : goal.after_base-requires-clause-fits
after_base-requires-clause-fits c =
    let h = c.requires.read in
    let g = stacks.last_given c.args.self.now.source.now c.args.stack.now.items c.pop.new.self.items c.in-Some.top c.args.span h.0 (place_of c.args.tokens.now c.args.code.now.items) c.in-Some.ensures.items h.1 in
    stacks.open_fits c.args.self.now.source.now _ c.in-Some.top c.args.span g.mid (place_of c.args.tokens.now c.args.code.now.items) g.given

pub returns-in-None-clause-step : goal.returns-in-None-clause-step
returns-in-None-clause-step c =
    let new = c.after_part.new.code.items in
    let old : c.args.stack.now.items ≡ [] = nil_from_length c.args.stack.now.items (sym c.args.stack.now.ok.0 ∙ c.in-None.ensures.cases.0) in
    let now : c.pop.new.self.items ≡ [] = nil_from_length c.pop.new.self.items (sym c.pop.new.self.ok.0 ∙ c.in-None.ensures.cases.1) in
    ok_map c.after_part.result
    (λ r. PartGoesOn c.args.self.now.source.now None c.args.span (place_of c.args.tokens.now c.args.code.now.items) r.0 (place_of r.1.now new))
    (λ r. ReadsOn c.args.self.now.source.now c.args.stack.now.items (stepped.Base c.args.span) (place_of c.args.tokens.now c.args.code.now.items) c.pop.new.self.items r.0 (place_of r.1.now new))
    (λ r f from h. stacks.left_alone c.args.self.now.source.now c.args.stack.now.items c.pop.new.self.items c.args.span r.0 from (place_of c.args.tokens.now c.args.code.now.items) (place_of r.1.now new) old now h f)
    c.after_part.ensures.step

pub returns-in-None-clause-stuck : goal.returns-in-None-clause-stuck
returns-in-None-clause-stuck c =
    let old : c.args.stack.now.items ≡ [] = nil_from_length c.args.stack.now.items (sym c.args.stack.now.ok.0 ∙ c.in-None.ensures.cases.0) in
    stuck_same c.after_part.result (PartStuck c.args.self.now.source.now None c.args.span (place_of c.args.tokens.now c.args.code.now.items)) (ReadsStuck c.args.self.now.source.now c.args.stack.now.items (stepped.Base c.args.span) (place_of c.args.tokens.now c.args.code.now.items))
    (λ w left f from h. stacks.left_alone_stuck c.args.self.now.source.now c.args.stack.now.items c.args.span from (place_of c.args.tokens.now c.args.code.now.items) w left old h f)
    c.after_part.ensures.stuck

pub returns-in-Some-clause-step : goal.returns-in-Some-clause-step
returns-in-Some-clause-step c =
    let new = c.after_base.new.code.items in
    ok_map c.after_base.result
    (λ r. OpenGoesOnAt c.args.self.now.source.now c.in-Some.top c.args.span (place_of c.args.tokens.now c.args.code.now.items) r.0 (place_of r.1.now new))
    (λ r. ReadsOn c.args.self.now.source.now c.args.stack.now.items (stepped.Base c.args.span) (place_of c.args.tokens.now c.args.code.now.items) c.pop.new.self.items r.0 (place_of r.1.now new))
    (λ r f from h. stacks.left c.args.self.now.source.now c.args.stack.now.items c.pop.new.self.items c.in-Some.top c.args.span r.0 from (place_of c.args.tokens.now c.args.code.now.items) (place_of r.1.now new) c.in-Some.ensures.items h f)
    c.after_base.ensures.step

pub returns-in-Some-clause-stuck : goal.returns-in-Some-clause-stuck
returns-in-Some-clause-stuck c =
    stuck_same c.after_base.result (OpenStuckAt c.args.self.now.source.now c.in-Some.top c.args.span (place_of c.args.tokens.now c.args.code.now.items)) (ReadsStuck c.args.self.now.source.now c.args.stack.now.items (stepped.Base c.args.span) (place_of c.args.tokens.now c.args.code.now.items))
    (λ w left f from h. stacks.left_stuck c.args.self.now.source.now c.args.stack.now.items c.pop.new.self.items c.in-Some.top c.args.span from (place_of c.args.tokens.now c.args.code.now.items) w left c.in-Some.ensures.items h f)
    c.after_base.ensures.stuck
