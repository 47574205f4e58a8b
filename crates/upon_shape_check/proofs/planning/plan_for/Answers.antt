use Rattle.std.proofs.Common.{arith, ◌≡◌, ◌≤◌, ◌∙◌, ap, length, sym}
use Rattle.std.proofs.lemmas.List.{length-map}
use Rattle.upon_shape_check.specs.Callables.{declared_view}
use Rattle.upon_shape_check.specs.Doubt.{doubts_view}
use Rattle.upon_shape_check.specs.Plan.{plan_view, planned_view}
use Rattle.upon_shape_check.specs.Verdict.{IsUntoldFrom}
use Rattle.upon_engine.specs.Engine.{engine_templates}
use Rattle.upon_shape_check.proofs.MakingPlans.{begun, planned_all, went_on}
use Rattle.upon_shape_check.proofs.Reaching.{from_itself, from_reached, if_err_same, looked_up}
use Rattle.upon_shape_check.proofs.planning.plan_for.Goals as goal
use Rattle.upon_shape_check.proofs.planning.plan_for.Goals.{else-loop-at-test, then-loop-at-test+in_default}

pub loop-at-init : goal.loop-at-init
loop-at-init g c =
    begun (declared_view c.args.declared.now) (engine_templates c.args.engine.now) (planned_view c.args.asked.now) (doubts_view c.in_ok-doubts.doubts.items) (plan_view c.new-plan.result) (plan_view c.add_included.new.plan)
    c.new-plan.ensures c.in_ok-doubts.ensures.told c.in_ok-add_included.ensures

pub returns-in_err-doubts-2-clause-untold : goal.returns-in_err-doubts-2-clause-untold
returns-in_err-doubts-2-clause-untold g c =
    let it = looked_up planned_view c.loop-at.plan.entries.items c.deref.result.now c.loop-at.at c.in-Some.planned.now c.deref.ensures.value c.in-Some.ensures.lookup.3.0 c.in-Some.ensures.lookup.1 in
    if_err_same c.from_residual-in_err-doubts-2.result c.in_err-doubts-2.field-0.0 (IsUntoldFrom (declared_view c.args.declared.now) (engine_templates c.args.engine.now) (planned_view c.args.asked.now)) c.from_residual-in_err-doubts-2.ensures.1
    (from_reached (declared_view c.args.declared.now) (engine_templates c.args.engine.now) (planned_view c.args.asked.now) (planned_view c.in-Some.planned.now) c.in_err-doubts-2.field-0.0
    (c.loop-at.invariant.are_reached (planned_view c.in-Some.planned.now) it.2) (c.loop-at.invariant.are_held (planned_view c.in-Some.planned.now) it.2) c.in_err-doubts-2.ensures.untold)

pub loop-at-preserved : goal.loop-at-preserved
loop-at-preserved g c =
    let it = looked_up planned_view c.loop-at.plan.entries.items c.deref.result.now c.loop-at.at c.in-Some.planned.now c.deref.ensures.value c.in-Some.ensures.lookup.3.0 c.in-Some.ensures.lookup.1 in
    went_on (declared_view c.args.declared.now) (engine_templates c.args.engine.now) (planned_view c.args.asked.now) c.loop-at.at (doubts_view c.in_ok-doubts-2.doubts.items) (plan_view c.loop-at.plan) (plan_view c.add_included-in-loop-at.new.plan)
    (planned_view c.in-Some.planned.now) it.0 it.1 it.2 c.in_ok-doubts-2.ensures.told c.in_ok-add_included-2.ensures c.loop-at.invariant

pub returns-in_err-doubts-clause-untold : goal.returns-in_err-doubts-clause-untold
returns-in_err-doubts-clause-untold g c =
    let declared = declared_view c.args.declared.now in
    let table = engine_templates c.args.engine.now in
    let asked = planned_view c.args.asked.now in
    if_err_same c.from_residual.result c.in_err-doubts.field-0.0 (IsUntoldFrom declared table asked) c.from_residual.ensures.1
    (from_itself declared table asked c.in_err-doubts.field-0.0 c.in_err-doubts.ensures.untold)

pub returns-clause-made : goal.returns-clause-made
returns-clause-made g c =
    let declared = declared_view c.args.declared.now in
    let table = engine_templates c.args.engine.now in
    let asked = planned_view c.args.asked.now in
    let plan = plan_view c.loop-at.plan in
    planned_all declared table asked c.loop-at.at plan (elim c.loop-at-test.branch [
      | else-loop-at-test w ↦
          let few : length plan ≤ 16384 = c.loop-at.invariant.are_few in
          omega (arith, few, w.loop-at-test.false)
      | then-loop-at-test+in_default w ↦
          let none : length w.deref.result.now ≤ c.loop-at.at = grind (arith, w.in_default.ensures.lookup) in
          let same : length plan ≡ length w.deref.result.now = length-map c.loop-at.plan.entries.items planned_view ∙ sym (ap length w.deref.ensures.value) in
          omega (arith, none, same)
    ]) c.loop-at.invariant
