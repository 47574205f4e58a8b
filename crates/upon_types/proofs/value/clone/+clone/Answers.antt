use Rattle.std.proofs.Common.{◌≡◌, string_bytes, sym, ap, ◌∙◌, arith}
use Rattle.std.proofs.lemmas.Grind.{common_steps}
use Rattle.upon_types.specs.Val.{entry_then, rises}
use Rattle.upon_types.specs.View.{view, entries_view}
use Rattle.upon_types.proofs.Bindings.{rises-entries}
use Rattle.upon_types.proofs.Copies.{joined, joined-none, insert_entry-joined}
use Rattle.upon_types.proofs.value.clone.+clone.Goals as goal

pub copies_of_entries-loop-key-preserved : goal.copies_of_entries-loop-key-preserved
copies_of_entries-loop-key-preserved t c =
    let so_far = c.loop-key.copies.entries in
    let left = c.next.new.self in
    let put = c.in_ok-put.ensures in
    let key : string_bytes put.0 ≡ string_bytes c.in-Some.key.now = put.1 in
    let value : view c.in_ok-copy_within.field-0 ≡ view c.in-Some.value.now = c.in_ok-copy_within.ensures in
    let whole : joined (entries_view so_far) (entry_then (string_bytes put.0) (view c.in_ok-copy_within.field-0) (entries_view left)) ≡ entries_view c.args.entries.now.entries =
    (λ i. joined (entries_view so_far) (entry_then (key i) (value i) (entries_view left)))
    ∙ ap (λ es. joined (entries_view so_far) (entries_view es)) (sym c.in-Some.ensures.steps)
    ∙ c.loop-key.invariant in
    let rise = ap rises whole ∙ rises-entries c.args.entries.now.entries c.iter-key-items.ensures.ordered in
    ap (λ es. joined (entries_view es) (entries_view left)) put.2
    ∙ insert_entry-joined so_far put.0 c.in_ok-copy_within.field-0 (entries_view left) rise
    ∙ whole

pub copies_of_entries-returns : goal.copies_of_entries-returns
copies_of_entries-returns t c =
    sym (joined-none (entries_view c.loop-key.copies.entries))
    ∙ ap (λ es. joined (entries_view c.loop-key.copies.entries) (entries_view es)) (sym c.in-None.ensures.steps.0)
    ∙ c.loop-key.invariant

-- the search finds no proof of these, and takes long
pub copies_of_entries-loop-key-smaller : goal.copies_of_entries-loop-key-smaller
copies_of_entries-loop-key-smaller = grind (arith, common_steps)

pub copies_of_items-loop-item-preserved : goal.copies_of_items-loop-item-preserved
copies_of_items-loop-item-preserved = grind (arith, common_steps)

pub copies_of_items-returns : goal.copies_of_items-returns
copies_of_items-returns = grind (arith, common_steps)
