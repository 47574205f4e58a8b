use Rattle.std.proofs.Common.{◌++◌, ◌∷◌, [], ◌∙◌, ap, sym, arith}
use Rattle.upon_types.specs.CopyTasks.{finished, copies_after, work_of_tasks}
use Rattle.upon_types.specs.Val.{list_val, map_val}
use Rattle.upon_types.specs.View.{vals_of}
use Rattle.upon_types.specs.declared.value.Value.{List as ListValue, Map as MapValue}
use Rattle.upon_types.specs.declared.value.copy.Task.TheVariants.{Copy, GatherList, GatherMap}
use Rattle.upon_types.proofs.CopyTasks.{run-append, work-append, finished-push}
use Rattle.upon_types.proofs.Views.{view-List, view-Map}
use Rattle.upon_types.proofs.value.copy.copy.Goals as goal

pub loop-task-smaller-in-Continue-branch-2 : goal.loop-task-smaller-in-Continue-branch-2
loop-task-smaller-in-Continue-branch-2 c =
    let ts = c.pop.new.self.items in
    let popped = ap work_of_tasks (c.in-Some.ensures.items ∙ ap (λ t. ts ++ t ∷ []) c.in-Copy.is) ∙ work-append ts (Copy c.in-Copy.value ∷ []) in
    omega (arith, popped, c.in_ok-begin-in-Copy.ensures.less)

pub loop-task-preserved-in-Continue-branch-2 : goal.loop-task-preserved-in-Continue-branch-2
loop-task-preserved-in-Continue-branch-2 c =
    let ts = c.pop.new.self.items in
    let s = finished c.loop-task.done.items in
    let popped = c.in-Some.ensures.items ∙ ap (λ t. ts ++ t ∷ []) c.in-Copy.is in
    c.in_ok-begin-in-Copy.ensures.means
    ∙ sym (run-append ts (Copy c.in-Copy.value ∷ []) s)
    ∙ sym (ap (λ us. copies_after us s) popped)
    ∙ c.loop-task.invariant

pub loop-task-smaller-in-Continue-branch-4 : goal.loop-task-smaller-in-Continue-branch-4
loop-task-smaller-in-Continue-branch-4 c =
    let ts = c.pop.new.self.items in
    let popped = ap work_of_tasks (c.in-Some.ensures.items ∙ ap (λ t. ts ++ t ∷ []) c.in-GatherList.is) ∙ work-append ts (GatherList c.in-GatherList.items ∷ []) in
    omega (arith, popped)

pub loop-task-preserved-in-Continue-branch-4 : goal.loop-task-preserved-in-Continue-branch-4
loop-task-preserved-in-Continue-branch-4 c =
    let ts = c.pop.new.self.items in
    let s = finished c.loop-task.done.items in
    let popped = c.in-Some.ensures.items ∙ ap (λ t. ts ++ t ∷ []) c.in-GatherList.is in
    let copies = c.in_ok-copies-in-GatherList.copies in
    let e = c.in_ok-copies-in-GatherList.ensures in
    let made = view-List copies ∙ ap (λ l. list_val (vals_of l)) e.copies in
    let rest = e.rest in
    ap (λ vs. copies_after ts (finished vs)) c.in_ok-push-in-GatherList.ensures.items
    ∙ ap (copies_after ts) (finished-push c.gather_items.new.done.items (ListValue copies) ∙ (λ i. made i ∷ rest i))
    ∙ sym (run-append ts (GatherList c.in-GatherList.items ∷ []) s)
    ∙ sym (ap (λ us. copies_after us s) popped)
    ∙ c.loop-task.invariant

pub loop-task-smaller : goal.loop-task-smaller
loop-task-smaller c =
    let ts = c.pop.new.self.items in
    let popped = ap work_of_tasks (c.in-Some.ensures.items ∙ ap (λ t. ts ++ t ∷ []) c.in-GatherMap.is) ∙ work-append ts (GatherMap c.in-GatherMap.entries ∷ []) in
    omega (arith, popped)

pub loop-task-preserved : goal.loop-task-preserved
loop-task-preserved c =
    let ts = c.pop.new.self.items in
    let s = finished c.loop-task.done.items in
    let popped = c.in-Some.ensures.items ∙ ap (λ t. ts ++ t ∷ []) c.in-GatherMap.is in
    let copies = c.in_ok-copies-in-GatherMap.copies in
    let e = c.in_ok-copies-in-GatherMap.ensures in
    let made = view-Map copies ∙ ap map_val e.copies in
    let rest = e.rest in
    ap (λ vs. copies_after ts (finished vs)) c.in_ok-push-in-GatherMap.ensures.items
    ∙ ap (copies_after ts) (finished-push c.gather_entries.new.done.items (MapValue copies) ∙ (λ i. made i ∷ rest i))
    ∙ sym (run-append ts (GatherMap c.in-GatherMap.entries ∷ []) s)
    ∙ sym (ap (λ us. copies_after us s) popped)
    ∙ c.loop-task.invariant
