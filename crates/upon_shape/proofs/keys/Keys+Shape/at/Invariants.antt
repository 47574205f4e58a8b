use Rattle.std.proofs.Common.{◌≡◌, drop}
use Rattle.upon_shape_spec.specs.Shape.{other_keys, at_key}
use Rattle.upon_shape.specs.View.{shape_view, ahead, keys_view}
use Rattle.upon_shape.proofs.keys.Keys+Shape.at.Given as goal

-- the keys to come say the same
abbrev pub invariant-loop-key : goal.invariant-loop-key
invariant-loop-key l =
    at_key l.name (ahead (drop l.key-index l.key-items) (other_keys (shape_view l.self.others.value))) ≡ at_key l.name (keys_view l.self)
