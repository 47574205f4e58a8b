use Rattle.std.proofs.Common.{◌≡◌, ◌<◌, ℕ, List}
use Rattle.csv.specs.Reading.{strip_bom}
use Rattle.csv.specs.Records.{fields_of}
use Rattle.upon_types.specs.View.{vals_view}
use Rattle.upon_data.specs.Table.{rows_vals}
use Rattle.upon_data.proofs.Records.{IsUnder}
use Rattle.upon_data.proofs.table.table.Given as goal

-- the rows so far are those of the records so far
abbrev pub invariant-loop-record : goal.invariant-loop-record
invariant-loop-record l =
    (rows : List (List (List ℕ))) × (0 < l.record-iterator.left) × IsUnder l.record-iterator.rdr (strip_bom l.fn.text) (fields_of l.head-inside.inner) rows
    × (vals_view l.rows.items ≡ rows_vals (fields_of l.head-inside.inner) rows)
