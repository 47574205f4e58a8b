use Rattle.std.proofs.Common.{map}
use Rattle.upon_shape_spec.specs.Accepted.{EachAccepted}
use Rattle.upon_shape_check.specs.Callables.{declared_view}
use Rattle.upon_shape_check.specs.Plan.{plan_view, planned_view}
use Rattle.upon_shape_check.specs.Planning.{AreAmong}
use Rattle.upon_engine.specs.Engine.{engine_templates}
use Rattle.upon_shape_check.proofs.levels.settle.Given as goal

abbrev pub invariant-loop-planned : goal.invariant-loop-planned
invariant-loop-planned g l = record {
  added : EachAccepted (declared_view l.declared) (engine_templates l.engine) (plan_view l.settled) (plan_view l.added);
  others : AreAmong (plan_view l.others) (plan_view l.fn.left);
  rest : AreAmong (map planned_view l.planned-iterator.rest.items) (plan_view l.fn.left);
}
