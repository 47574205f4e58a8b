use Rattle.std.proofs.Common.{◌≡◌, ◌≤◌, length, take}
use Rattle.upon_shape_spec.specs.Scope as spec
use Rattle.upon_shape_check.specs.Scope.{names_view}
use Rattle.upon_shape_check.proofs.scope.names_are_as_wide.Given as goal

abbrev pub invariant-loop-left : goal.invariant-loop-left
invariant-loop-left l = record {
  within : l.left ≤ length l.names;
  same : spec.names_wider (names_view l.names) (names_view l.wide) (names_view l.others)
      ≡ spec.names_wider (names_view (take l.left l.names)) (names_view l.wide) (names_view l.others);
}

abbrev pub decreases-loop-left : goal.decreases-loop-left
decreases-loop-left l = l.left
