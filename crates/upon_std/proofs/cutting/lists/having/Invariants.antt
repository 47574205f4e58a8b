use Rattle.std.proofs.Common.{◌≡◌, map, take}
use Rattle.std.specs.Prelude.{filter}
use Rattle.upon_types.specs.Same.{val_eq}
use Rattle.upon_types.specs.View.{view}
use Rattle.upon_std.specs.Basic.Items.{value_at_key}
use Rattle.upon_std.proofs.cutting.lists.having.Given as goal

abbrev pub invariant-loop-item : goal.invariant-loop-item
invariant-loop-item l = map view l.made.items ≡ map view (filter (λ x. val_eq (value_at_key l.key (view x)) (view l.wanted)) (take l.item-index l.items))
