use Rattle.std.proofs.Common.{◌≡◌, ◌++◌, [], drop, map}
use Rattle.upon_shape_spec.specs.Accepted.{EachAccepted, IsClosed}
use Rattle.upon_shape_check.specs.Callables.{declared_view}
use Rattle.upon_shape_check.specs.Doubted.{each_misfits, misfits_view}
use Rattle.upon_shape_check.specs.Plan.{plan_view, planned_view}
use Rattle.upon_engine.specs.Engine.{engine_templates}
use Rattle.upon_shape_check.proofs.verdict.add_misfits_of_plan.Given as goal

abbrev pub invariant-loop-planned : goal.invariant-loop-planned
invariant-loop-planned g l = record {
  before : l.misfits.items ≡ [] → l.fn.misfits.items ≡ [];
  closed : l.misfits.items ≡ []
      → EachAccepted (declared_view l.declared) (engine_templates l.engine) (plan_view l.plan)
      (map planned_view (drop l.planned-index l.plan.entries.items))
      → IsClosed (declared_view l.declared) (engine_templates l.engine) (plan_view l.plan);
  added : misfits_view l.misfits.items ++ each_misfits (declared_view l.declared) (engine_templates l.engine) (plan_view l.plan) (map planned_view (drop l.planned-index l.plan.entries.items))
      ≡ misfits_view l.fn.misfits.items ++ each_misfits (declared_view l.declared) (engine_templates l.engine) (plan_view l.plan) (plan_view l.plan);
}
