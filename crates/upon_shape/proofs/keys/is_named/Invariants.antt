use Rattle.std.proofs.Common.{◌≡◌, drop}
use Rattle.upon_shape.specs.Keys.{is_among}
use Rattle.upon_shape.proofs.keys.is_named.Given as goal

-- the keys to come decide
abbrev pub invariant-loop-key : goal.invariant-loop-key
invariant-loop-key l = is_among l.name (drop l.key-index l.keys) ≡ is_among l.name l.keys
