use Rattle.upon_types.specs.Weight.{bulk}
use Rattle.upon_types.proofs.Weights.{measure}
use Rattle.upon_types.proofs.value.+drop.Given as goal

abbrev pub decreases-Value::drop : goal.decreases-Value::drop
decreases-Value::drop l = goal.size-Value::drop l

abbrev pub decreases-drop_items : goal.decreases-drop_items
decreases-drop_items l = goal.size-drop_items l

abbrev pub decreases-Value::take_apart : goal.decreases-Value::take_apart
decreases-Value::take_apart l = 2

abbrev pub invariant-drop_items-loop-item : goal.invariant-drop_items-loop-item
invariant-drop_items-loop-item l = goal.no_deeper-drop_items-loop-item l

abbrev pub decreases-drop_items-loop-item : goal.decreases-drop_items-loop-item
decreases-drop_items-loop-item l = goal.left-drop_items-loop-item l

abbrev pub decreases-Value::take_apart-loop-self : goal.decreases-Value::take_apart-loop-self
decreases-Value::take_apart-loop-self l = measure (bulk l.self) (bulk l.above)
