use Rattle.std.proofs.Common.{◌++◌, ◌∷◌, [], ◌∙◌, map, ap, sym, arith}
use Rattle.upon_types.specs.CopyTasks.{copies_after, work_of_tasks}
use Rattle.upon_types.specs.View.{view}
use Rattle.upon_types.specs.Weight.{entries_bulk}
use Rattle.upon_types.specs.declared.value.copy.Task.TheVariants.{Copy}
use Rattle.upon_types.proofs.CopyTasks.{run-append, work-append}
use Rattle.upon_types.proofs.Views.{Entry}
use Rattle.upon_types.proofs.value.copy.plan_entries.Goals as goal

pub loop-value-preserved : goal.loop-value-preserved
loop-value-preserved c =
    let ts = c.loop-value.tasks.items in
    let pushed = c.in_ok-push.ensures.items in
    let steps = c.in-Some.ensures.steps in
    let before = c.loop-value.invariant in
    record {
      means = λ s. ap (λ us. copies_after us (map (λ (e : Entry). view e.1) c.next.new.self ++ s)) pushed ∙ run-append ts (Copy c.in-Some.value ∷ []) (map (λ (e : Entry). view e.1) c.next.new.self ++ s) ∙ ap (λ es. copies_after ts (map (λ (e : Entry). view e.1) es ++ s)) (sym steps) ∙ before.means s;
      works = omega (arith, ap work_of_tasks pushed, work-append ts (Copy c.in-Some.value ∷ []), ap entries_bulk steps, before.works);
    }
