use Rattle.std.proofs.Common.{◌≡◌, map, take}
use Rattle.upon_shape.specs.View.{named_view}
use Rattle.upon_shape.proofs.+copy.Given as goal

-- so far the copies are of the keys
abbrev pub invariant-copy::Keys+Shape::try_clone-loop-key : goal.invariant-copy::Keys+Shape::try_clone-loop-key
invariant-copy::Keys+Shape::try_clone-loop-key l = map named_view l.named.items ≡ map named_view (take l.key-index l.key-items)
