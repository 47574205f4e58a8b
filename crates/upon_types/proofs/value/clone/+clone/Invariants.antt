use Rattle.std.proofs.Common.{◌≡◌, map, take}
use Rattle.upon_types.specs.View.{view, entries_view}
use Rattle.upon_types.proofs.Copies.{joined}
use Rattle.upon_types.proofs.value.clone.+clone.Given as goal

abbrev pub invariant-copies_of_items-loop-item : goal.invariant-copies_of_items-loop-item
invariant-copies_of_items-loop-item l = map view l.copies.items ≡ map view (take l.item-index l.item-items)

-- the copies so far and then what is left are the whole
abbrev pub invariant-copies_of_entries-loop-key : goal.invariant-copies_of_entries-loop-key
invariant-copies_of_entries-loop-key l = joined (entries_view l.copies.entries) (entries_view l.key-iterator) ≡ entries_view l.entries.entries
