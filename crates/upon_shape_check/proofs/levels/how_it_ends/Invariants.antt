use Rattle.upon_shape_check.specs.Callables.{declared_view}
use Rattle.upon_shape_check.specs.Plan.{plan_view}
use Rattle.upon_shape_check.specs.Planning.{AreAmong}
use Rattle.upon_engine.specs.Engine.{engine_templates}
use Rattle.upon_shape_check.specs.Levels.{IncludeWithin}
use Rattle.upon_shape_check.proofs.levels.how_it_ends.Given as goal

abbrev pub invariant-loop-level : goal.invariant-loop-level
invariant-loop-level g l = record {
  within : IncludeWithin (declared_view l.declared) (engine_templates l.engine) l.level (plan_view l.settled);
  left : AreAmong (plan_view l.left) (plan_view l.fn.plan);
}
