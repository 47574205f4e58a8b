use Rattle.std.proofs.Common.{◌≡◌, ◌+◌, ◌*◌, ◌++◌, List, map}
use Rattle.upon_types.specs.CopyTasks.{copies_after, work_of_tasks}
use Rattle.upon_types.specs.Val.{Val}
use Rattle.upon_types.specs.View.{view}
use Rattle.upon_types.specs.Weight.{entries_bulk}
use Rattle.upon_types.proofs.value.copy.plan_entries.Given as goal

-- the tasks so far and what is left of the entries
abbrev pub invariant-loop-value : goal.invariant-loop-value
invariant-loop-value l = record {
  means : (s : List Val) → copies_after l.tasks.items (map (λ e. view e.1) l.value-iterator ++ s) ≡ copies_after l.initial.tasks.items (map (λ e. view e.1) l.entries.entries ++ s);
  works : work_of_tasks l.tasks.items + 2 * entries_bulk l.value-iterator ≡ work_of_tasks l.initial.tasks.items + 2 * entries_bulk l.entries.entries;
}
