use Rattle.std.proofs.Common.{◌+◌, ◌*◌, ◌++◌, ◌∙◌, map, drop, ap}
use Rattle.upon_types.specs.CopyTasks.{copies_after, work_of_tasks}
use Rattle.upon_types.specs.View.{view}
use Rattle.upon_types.specs.Weight.{items_bulk}
use Rattle.upon_types.proofs.CopyTasks.{planned_item, planned_work}
use Rattle.upon_types.proofs.value.copy.plan_items.Goals as goal

pub loop-item-preserved : goal.loop-item-preserved
loop-item-preserved c =
    let i = c.loop-item.item-index in
    let items = c.args.items.now in
    let pushed = c.in_ok-push.ensures.items in
    let at = c.item-item.is in
    let before = c.loop-item.invariant in
    record {
      means = λ s. ap (λ ts. copies_after ts (map view (drop (i + 1) items) ++ s)) pushed ∙ planned_item c.loop-item.tasks.items _ items i c.loop-item-test.true at s ∙ before.means s;
      works = ap (λ ts. work_of_tasks ts + 2 * items_bulk (drop (i + 1) items)) pushed ∙ planned_work c.loop-item.tasks.items _ items i c.loop-item-test.true at ∙ before.works;
    }
