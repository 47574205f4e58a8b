use Rattle.std.proofs.Common.{◌≡◌, ◌≤◌, length, drop}
use Rattle.upon_shape_spec.specs.Accepted as spec
use Rattle.upon_shape_spec.specs.Shape.{other_keys}
use Rattle.upon_shape.specs.View.{ahead, shape_view}
use Rattle.upon_shape_check.proofs.loops.keys_joined.Given as goal

abbrev pub invariant-loop-left : goal.invariant-loop-left
invariant-loop-left l = record {
  within : l.left ≤ length l.keys.named.items;
  joined_so : shape_view l.joined ≡ spec.keys_joined (ahead (drop l.left l.keys.named.items) (other_keys (shape_view l.keys.others.value)));
}

abbrev pub decreases-loop-left : goal.decreases-loop-left
decreases-loop-left l = l.left
