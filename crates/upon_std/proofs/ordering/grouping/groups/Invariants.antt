use Rattle.std.proofs.Common.{◌≡◌, map, take}
use Rattle.upon_types.specs.Same.{val_eq}
use Rattle.upon_types.specs.Val.{Val}
use Rattle.upon_types.specs.View.{view}
use Rattle.upon_std.specs.Basic.Items.{value_at_key}
use Rattle.upon_std.specs.Ordering.Distinct.{distinct}
use Rattle.upon_std.specs.Ordering.Groups.{group_parts, parted}
use Rattle.upon_std.specs.Ordering.Places.{place_met}
use Rattle.upon_std.proofs.OrderingLemmas.Meeting.{place_in}
use Rattle.upon_std.proofs.ordering.grouping.groups.Given as goal

-- the items so far are in groups, and the keys of these have their places
abbrev pub invariant-loop-item : goal.invariant-loop-item
invariant-loop-item l = record {
  parts : map group_parts l.groups.items ≡ parted (value_at_key l.name) (map view (take l.item-index l.items));
  places : (v : Val) → place_met l.places v ≡ place_in (distinct val_eq (map (value_at_key l.name) (map view (take l.item-index l.items)))) v;
}
