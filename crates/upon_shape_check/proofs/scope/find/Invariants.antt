use Rattle.std.proofs.Common.{◌≡◌, ◌+◌, ◌-◌, ◌≤◌, option_map, length, take}
use Rattle.upon_shape_spec.specs.Scope as spec
use Rattle.upon_shape_check.specs.Scope.{name_depth, names_view}
use Rattle.upon_shape_check.proofs.scope.find.Given as goal

abbrev pub invariant-loop-left : goal.invariant-loop-left
invariant-loop-left l = record {
  within : l.left ≤ length l.names;
  depth : name_depth l.name (names_view l.names) ≡ option_map (λ n. n + (length l.names - l.left)) (name_depth l.name (names_view (take l.left l.names)));
  first : spec.first_bound_shape l.name (names_view l.names) ≡ spec.first_bound_shape l.name (names_view (take l.left l.names));
}

abbrev pub decreases-loop-left : goal.decreases-loop-left
decreases-loop-left l = l.left
