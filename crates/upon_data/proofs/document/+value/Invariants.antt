use Rattle.std.proofs.Common.{◌≡◌, List, ◌++◌, take, String, Global}
use Rattle.toml.specs.View.{items_view, members_view}
use Rattle.toml.specs.declared.value.Value.{Value as Data}
use Rattle.upon_types.specs.View.{vals_view, entries_view}
use Rattle.upon_data.specs.Document.{AreEntriesOf, AreValuesOf}
use Rattle.upon_data.proofs.document.+value.Given as goal

-- the values so far are those of the items so far
abbrev pub invariant-items-loop-data : goal.invariant-items-loop-data
invariant-items-loop-data l = AreValuesOf (items_view (take l.data-index l.data-items)) (vals_view l.values.items)

-- the entries so far are those of the members so far
abbrev pub invariant-entries-loop-key : goal.invariant-entries-loop-key
invariant-entries-loop-key l =
    (done : List (String Global × Data)) × (l.table.entries ≡ done ++ l.key-iterator) × AreEntriesOf (members_view done) (entries_view l.entries.entries)
