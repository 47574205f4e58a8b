use Rattle.std.proofs.Common.{◌≡◌, ◌-◌, drop}
use Rattle.upon_shape_spec.specs.Shape.{other_keys}
use Rattle.upon_shape.specs.View.{ahead, keys_view, shape_view}
use Rattle.upon_shape_spec.specs.Depth.{keys_deeper}
use Rattle.upon_shape.proofs.+depth.Given as goal

abbrev pub invariant-depth::maps_are_deeper-loop-key : goal.invariant-depth::maps_are_deeper-loop-key
invariant-depth::maps_are_deeper-loop-key l = keys_deeper (l.levels - 1) (keys_view l.keys) ≡ keys_deeper (l.levels - 1) (ahead (drop l.key-index l.keys.named.items) (other_keys (shape_view l.keys.others.value)))
