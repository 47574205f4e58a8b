use Rattle.std.proofs.Common.{◌≡◌, ◌+◌, ◌*◌, ◌++◌, List, map, drop}
use Rattle.upon_types.specs.CopyTasks.{copies_after, work_of_tasks}
use Rattle.upon_types.specs.Val.{Val}
use Rattle.upon_types.specs.View.{view}
use Rattle.upon_types.specs.Weight.{items_bulk}
use Rattle.upon_types.proofs.value.copy.plan_items.Given as goal

-- the tasks so far and what is left of the items
abbrev pub invariant-loop-item : goal.invariant-loop-item
invariant-loop-item l = record {
  means : (s : List Val) → copies_after l.tasks.items (map view (drop l.item-index l.items) ++ s) ≡ copies_after l.initial.tasks.items (map view l.items ++ s);
  works : work_of_tasks l.tasks.items + 2 * items_bulk (drop l.item-index l.items) ≡ work_of_tasks l.initial.tasks.items + 2 * items_bulk l.items;
}
