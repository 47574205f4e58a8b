use Rattle.std.proofs.Common.{◌≡◌, map, take}
use Rattle.upon_types.specs.View.{view}
use Rattle.upon_std.specs.Ordering.Rows.{row_item}
use Rattle.upon_std.proofs.ordering.sorting.copied.Given as goal

-- the copies so far are those of the rows so far
abbrev pub invariant-loop-row : goal.invariant-loop-row
invariant-loop-row l = map view l.copies.items ≡ map row_item (take l.row-index l.rows)
