use Rattle.std.proofs.Common.{◌≡◌, map, take}
use Rattle.upon_types.specs.Same.{val_eq}
use Rattle.upon_types.specs.Val.{Val}
use Rattle.upon_types.specs.View.{view}
use Rattle.upon_std.specs.Ordering.Distinct.{distinct}
use Rattle.upon_std.specs.Ordering.Places.{place_met}
use Rattle.upon_std.proofs.OrderingLemmas.Meeting.{place_in}
use Rattle.upon_std.proofs.ordering.distinct.distinct.Given as goal

-- of the items so far the first of each are kept, and these have their places
abbrev pub invariant-loop-item : goal.invariant-loop-item
invariant-loop-item l = record {
  kept : map view l.kept.items ≡ distinct val_eq (map view (take l.item-index l.items));
  places : (v : Val) → place_met l.places v ≡ place_in (map view l.kept.items) v;
}
