use Rattle.upon_shape_check.specs.Callables.{declared_view}
use Rattle.upon_shape_check.specs.Plan.{plan_view, planned_view}
use Rattle.upon_engine.specs.Engine.{engine_templates}
use Rattle.upon_shape_check.proofs.MakingPlans.{IsPlanSoFar}
use Rattle.upon_shape_check.proofs.planning.plan_for.Given as goal

abbrev pub invariant-loop-at : goal.invariant-loop-at
invariant-loop-at g l = IsPlanSoFar (declared_view l.declared) (engine_templates l.engine) (planned_view l.asked) (plan_view l.plan) l.at
