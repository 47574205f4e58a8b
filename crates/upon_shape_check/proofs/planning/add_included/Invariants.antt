use Rattle.upon_shape_check.specs.Doubt.{doubts_view}
use Rattle.upon_shape_check.specs.Plan.{plan_view}
use Rattle.upon_engine.specs.Engine.{engine_templates}
use Rattle.upon_shape_check.proofs.MakingPlans.{AddsSoFar}
use Rattle.upon_shape_check.proofs.planning.add_included.Given as goal

abbrev pub invariant-loop-doubt : goal.invariant-loop-doubt
invariant-loop-doubt g l = AddsSoFar (engine_templates l.engine) (doubts_view l.fn.doubts.items) (doubts_view l.doubt-iterator.rest.items) (plan_view l.fn.plan) (plan_view l.plan)
