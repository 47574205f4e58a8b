use Rattle.std.proofs.Common.{◌≡◌, map, take}
use Rattle.upon_types.specs.View.{view}
use Rattle.upon_std.specs.Ordering.Groups.{lent_vals}
use Rattle.upon_std.proofs.ordering.grouping.copied.Given as goal

-- the copies so far are those of the items so far
abbrev pub invariant-loop-item : goal.invariant-loop-item
invariant-loop-item l = map view l.copies.items ≡ lent_vals (take l.item-index l.items)
