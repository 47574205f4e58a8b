use Rattle.std.proofs.Common.{◌≡◌, pos, map, drop}
use Rattle.upon_types.specs.View.{view}
use Rattle.upon_std.specs.Cutting.Numbers.{summed}
use Rattle.upon_std.proofs.cutting.numbers.sum.Given as goal

-- what is made of the items that are left, on top of the sum so far, is made of all
abbrev pub invariant-loop-item : goal.invariant-loop-item
invariant-loop-item l = summed l.total (map view (drop l.item-index l.items)) ≡ summed (pos 0) (map view l.items)
