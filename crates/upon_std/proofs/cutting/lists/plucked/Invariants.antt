use Rattle.std.proofs.Common.{◌≡◌, map, take}
use Rattle.upon_types.specs.View.{view}
use Rattle.upon_std.specs.Basic.Items.{value_at_key}
use Rattle.upon_std.proofs.cutting.lists.plucked.Given as goal

abbrev pub invariant-loop-item : goal.invariant-loop-item
invariant-loop-item l = map view l.made.items ≡ map (λ x. value_at_key l.key (view x)) (take l.item-index l.items)
