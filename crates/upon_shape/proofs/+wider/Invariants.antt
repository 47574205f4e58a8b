use Rattle.std.proofs.Common.{◌≡◌, [], take, drop}
use Rattle.upon_shape_spec.specs.Shape.{other_keys}
use Rattle.upon_shape_spec.specs.Wider.{each_beside, wider, keys_wider}
use Rattle.upon_shape.specs.Keys.{seen_after}
use Rattle.upon_shape.specs.View.{shape_view, ahead, keys_view}
use Rattle.upon_shape.proofs.+wider.Given as goal

-- beside the keys so far, those to come decide
abbrev pub invariant-wider::maps_are_as_wide-loop-index : goal.invariant-wider::maps_are_as_wide-loop-index
invariant-wider::maps_are_as_wide-loop-index l =
    keys_wider (seen_after (take l.index l.keys.named.items) []) (ahead (drop l.index l.keys.named.items) (other_keys (shape_view l.keys.others.value))) (keys_view l.others)
    ≡ keys_wider [] (keys_view l.keys) (keys_view l.others)

abbrev pub invariant-wider::is_as_wide_beside-loop-index : goal.invariant-wider::is_as_wide_beside-loop-index
invariant-wider::is_as_wide_beside-loop-index l =
    each_beside (seen_after (take l.index l.others.named.items) (seen_after l.seen [])) (wider (shape_view l.shape)) (ahead (drop l.index l.others.named.items) (other_keys (shape_view l.others.others.value)))
    ≡ each_beside (seen_after l.seen []) (wider (shape_view l.shape)) (keys_view l.others)
