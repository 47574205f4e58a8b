use Rattle.std.proofs.Common.{◌≡◌, [], ◌∷◌}
use Rattle.upon_types.specs.CopyTasks.{finished, copies_after, work_of_tasks}
use Rattle.upon_types.specs.View.{view}
use Rattle.upon_types.proofs.value.copy.copy.Given as goal

-- the tasks that are left make the copy
abbrev pub invariant-loop-task : goal.invariant-loop-task
invariant-loop-task l = copies_after l.tasks.items (finished l.done.items) ≡ view l.value ∷ []

abbrev pub decreases-loop-task : goal.decreases-loop-task
decreases-loop-task l = work_of_tasks l.tasks.items
