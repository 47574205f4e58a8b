use Rattle.std.proofs.Common.{◌∷◌, inl, refl}
use Rattle.upon_shape_check.specs.Callables.{declared_view}
use Rattle.upon_shape_check.specs.Plan.{plan_view, planned_view}
use Rattle.upon_shape_check.specs.Verdict.{IsUntoldAmong}
use Rattle.upon_engine.specs.Engine.{engine_templates}
use Rattle.upon_shape_check.proofs.Reaching.{if_err_same, untold_among}
use Rattle.upon_shape_check.proofs.accepts.misfits_of.Goals as goal

pub returns-in_err-doubts-clause-untold : goal.returns-in_err-doubts-clause-untold
returns-in_err-doubts-clause-untold g c =
    let declared = declared_view c.args.declared.now in
    let table = engine_templates c.args.engine.now in
    let asked = planned_view c.args.asked.now in
    let all = asked ∷ plan_view c.args.plan.now in
    if_err_same c.from_residual.result c.in_err-doubts.field-0.0 (IsUntoldAmong declared table all) c.from_residual.ensures.1
    (untold_among declared table all asked c.in_err-doubts.field-0.0 (inl refl) c.in_err-doubts.ensures.untold)
