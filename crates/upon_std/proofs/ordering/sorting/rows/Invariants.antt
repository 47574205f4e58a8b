use Rattle.std.proofs.Common.{◌≡◌, ◌+◌, map, take, drop}
use Rattle.upon_types.specs.View.{view}
use Rattle.upon_std.specs.Ordering.Keys.{key_val}
use Rattle.upon_std.specs.Ordering.Rows.{AreRows}
use Rattle.upon_std.specs.Ordering.Sorting.{first_unlike}
use Rattle.upon_std.proofs.ordering.sorting.rows.Given as goal

-- the first key that has no order with the first is among those that are left; the rows so far are those of the items so far
abbrev pub invariant-loop-item : goal.invariant-loop-item
invariant-loop-item l = record {
  unlike : first_unlike (view l.first_value) (map (key_val l.key) (map view (drop l.item-index l.others)))
      ≡ first_unlike (view l.first_value) (map (key_val l.key) (map view l.others));
  rows : AreRows (key_val l.key) (map view (take (l.item-index + 1) l.items)) l.rows.items;
}
