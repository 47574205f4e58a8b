use Rattle.std.proofs.Common.{arith, ◌≡◌, List, get_or, subst}
use Rattle.upon_shape_check.specs.Callables.{declared_view}
use Rattle.upon_shape_check.specs.Plan.{plan_view, planned_view}
use Rattle.upon_shape_check.specs.Verdict.{IsUntoldAmong}
use Rattle.upon_shape_check.specs.declared.plan.Planned.{Planned as PlannedCode}
use Rattle.upon_engine.specs.Engine.{engine_templates}
use Rattle.upon_shape_check.proofs.Reaching.{among_at, if_err_same, untold_among}
use Rattle.upon_shape_check.proofs.verdict.add_misfits_of_plan.Goals as goal

pub returns-in_err-doubts-clause-untold : goal.returns-in_err-doubts-clause-untold
returns-in_err-doubts-clause-untold g c =
    let declared = declared_view c.args.declared.now in
    let table = engine_templates c.args.engine.now in
    let plan = plan_view c.args.plan.now in
    if_err_same c.from_residual.result c.in_err-doubts.field-0.0 (IsUntoldAmong declared table plan) c.from_residual.ensures.1
    (untold_among declared table plan (planned_view c.planned-item.result) c.in_err-doubts.field-0.0
    (among_at planned_view c.args.plan.now.entries.items c.loop-planned.planned-index c.planned-item.result (omega arith)
    (subst (λ (l : List PlannedCode). c.planned-item.result ≡ get_or l c.loop-planned.planned-index c.planned-item.result) c.deref-planned-items.ensures.value c.planned-item.is)) c.in_err-doubts.ensures.untold)
