use Rattle.std.proofs.Common.{◌≡◌, map, take}
use Rattle.upon_types.specs.View.{view}
use Rattle.upon_std.specs.Ordering.Grouping.{group_val}
use Rattle.upon_std.specs.Ordering.Groups.{group_parts}
use Rattle.upon_std.proofs.ordering.grouping.grouped.Given as goal

-- the maps so far are those of the groups so far
abbrev pub invariant-loop-group : goal.invariant-loop-group
invariant-loop-group l = map view l.maps.items ≡ map (λ g. group_val g.0 g.1) (map group_parts (take l.group-index l.group-items))
