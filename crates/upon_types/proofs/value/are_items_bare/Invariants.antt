use Rattle.std.proofs.Common.{◌≡◌, drop}
use Rattle.upon_types.specs.Weight.{all_bare}
use Rattle.upon_types.proofs.value.are_items_bare.Given as goal

abbrev pub invariant-loop-item : goal.invariant-loop-item
invariant-loop-item l = all_bare l.items ≡ all_bare (drop l.item-index l.items)
