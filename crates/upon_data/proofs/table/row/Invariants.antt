use Rattle.std.proofs.Common.{◌≡◌, drop}
use Rattle.csv.specs.Records.{fields_of}
use Rattle.upon_types.specs.Val.{no_entries}
use Rattle.upon_types.specs.View.{entries_view}
use Rattle.upon_data.specs.Table.{fields_over}
use Rattle.upon_data.proofs.table.row.Given as goal

-- the entries of all fields are those so far, and then those of the fields that are left
abbrev pub invariant-loop-key : goal.invariant-loop-key
invariant-loop-key l =
    (goal.iterator-loop-key).can_next l.key-iterator × (goal.iterator-loop-key).is_finite l.key-iterator
    × (l.key-iterator.a.row.now ≡ l.fn.head) × (l.key-iterator.b.row.now ≡ l.fn.record) × (l.key-iterator.b.at ≡ l.key-iterator.a.at)
    × (fields_over (fields_of l.fn.head) (fields_of l.fn.record) no_entries
    ≡ fields_over (drop l.key-iterator.a.at (fields_of l.fn.head)) (drop l.key-iterator.a.at (fields_of l.fn.record)) (entries_view l.entries.entries))
