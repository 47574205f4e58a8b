use Rattle.std.proofs.Common.{◌≡◌, take, drop}
use Rattle.upon_shape_spec.specs.Join.{joined_others, join_shapes, join_keys}
use Rattle.upon_shape_spec.specs.Shape.{other_keys}
use Rattle.upon_shape.specs.Keys.{without_each}
use Rattle.upon_shape.specs.View.{shape_view, ahead, keys_view}
use Rattle.upon_shape.proofs.+join.Given as goal

-- the keys so far, ahead of those to come joined with what is beside, are all
abbrev pub invariant-join::joined_maps-loop-index : goal.invariant-join::joined_maps-loop-index
invariant-join::joined_maps-loop-index l =
    ahead l.named.items (join_keys (ahead (drop l.index l.keys.named.items) (other_keys (shape_view l.keys.others.value))) (without_each (take l.index l.keys.named.items) (keys_view l.others)))
    ≡ join_keys (keys_view l.keys) (keys_view l.others)

abbrev pub invariant-join::add_beside-loop-key : goal.invariant-join::add_beside-loop-key
invariant-join::add_beside-loop-key l =
    ahead l.named.items (joined_others (join_shapes (shape_view l.shape)) (without_each l.seen (ahead (drop l.key-index l.key-items) (other_keys (shape_view l.others.others.value)))))
    ≡ ahead l.initial.named.items (joined_others (join_shapes (shape_view l.shape)) (without_each l.seen (keys_view l.others)))
