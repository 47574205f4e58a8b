use Rattle.std.proofs.Common.{◌≡◌, ◌++◌, ◌∷◌, ◌∙◌, length, map, take, drop, ap, sym, arith}
use Rattle.upon_types.specs.CopyTasks.{finished, copies_after, work_of_tasks}
use Rattle.upon_types.specs.Val.{text_val, list_val, map_val}
use Rattle.upon_types.specs.View.{view, vals_of}
use Rattle.upon_types.specs.Weight.{bulk, items_bulk}
use Rattle.upon_types.specs.declared.value.Value.{String as StringValue}
use Rattle.upon_types.proofs.CopyTasks.{run-append, work-append, finished-push, gathered_list, zip_whole, rest_whole}
use Rattle.upon_types.proofs.Views.{Entry, view-String, view-List, view-Map}
use Rattle.upon_types.proofs.Weights.{weight-List, weight-Map}
use Rattle.upon_types.proofs.value.copy.begin.Goals as goal

pub returns-in_ok-push-in-String-clause-means : goal.returns-in_ok-push-in-String-clause-means
returns-in_ok-push-in-String-clause-means c =
    let ts = c.args.tasks.now.items in
    let done = c.args.done.now.items in
    let copy = c.in_ok-clone-in-String.field-0 in
    let copied : view (StringValue copy) ≡ view c.args.value.now =
    view-String copy ∙ ap text_val c.in_ok-clone-in-String.ensures.cases ∙ sym (view-String c.in-String.text) ∙ ap view (sym c.in-String.is) in
    ap (copies_after ts) (ap finished c.in_ok-push-in-String.ensures.items ∙ finished-push done (StringValue copy) ∙ ap (λ v. v ∷ finished done) copied)

pub returns-in_ok-plan_items-in-List-clause-means : goal.returns-in_ok-plan_items-in-List-clause-means
returns-in_ok-plan_items-in-List-clause-means c =
    let ts = c.args.tasks.now.items in
    let s = finished c.args.done.now.items in
    let items = c.in-List.items in
    let n = length items.items in
    let lent = c.deref.ensures.value in
    let gathered = gathered_list items.items s in
    c.in_ok-plan_items-in-List.ensures.means s
    ∙ ap (λ us. copies_after us (map view c.deref.result.now ++ s)) c.in_ok-push-in-List.ensures.items
    ∙ run-append ts _ (map view c.deref.result.now ++ s)
    ∙ ap (copies_after ts) ((λ i. list_val (vals_of (take n (map view (lent i) ++ s))) ∷ drop n (map view (lent i) ++ s)) ∙ gathered ∙ ap (λ v. v ∷ s) (sym (view-List items) ∙ ap view (sym c.in-List.is)))

pub returns-in_ok-plan_items-in-List-clause-less : goal.returns-in_ok-plan_items-in-List-clause-less
returns-in_ok-plan_items-in-List-clause-less c =
    let pushed = ap work_of_tasks c.in_ok-push-in-List.ensures.items ∙ work-append c.args.tasks.now.items _ in
    omega (arith, c.in_ok-plan_items-in-List.ensures.work, pushed, ap items_bulk c.deref.ensures.value, weight-List c.in-List.items, ap bulk c.in-List.is)

pub returns-in_ok-plan_entries-in-Map-clause-means : goal.returns-in_ok-plan_entries-in-Map-clause-means
returns-in_ok-plan_entries-in-Map-clause-means c =
    let ts = c.args.tasks.now.items in
    let s = finished c.args.done.now.items in
    let es = c.in-Map.entries.entries in
    let zip = zip_whole es s in
    let rest = rest_whole es s in
    c.in_ok-plan_entries-in-Map.ensures.means s
    ∙ ap (λ us. copies_after us (map (λ (e : Entry). view e.1) es ++ s)) c.in_ok-push-in-Map.ensures.items
    ∙ run-append ts _ (map (λ (e : Entry). view e.1) es ++ s)
    ∙ ap (copies_after ts) ((λ i. map_val (zip i) ∷ rest i) ∙ ap (λ v. v ∷ s) (sym (view-Map c.in-Map.entries) ∙ ap view (sym c.in-Map.is)))

pub returns-in_ok-plan_entries-in-Map-clause-less : goal.returns-in_ok-plan_entries-in-Map-clause-less
returns-in_ok-plan_entries-in-Map-clause-less c =
    let pushed = ap work_of_tasks c.in_ok-push-in-Map.ensures.items ∙ work-append c.args.tasks.now.items _ in
    omega (arith, c.in_ok-plan_entries-in-Map.ensures.work, pushed, weight-Map c.in-Map.entries, ap bulk c.in-Map.is)
