use Rattle.std.proofs.Common.{◌≡◌, map, take, pos}
use Rattle.upon_types.specs.Val.{int_val}
use Rattle.upon_types.specs.View.{view}
use Rattle.upon_serde.proofs.build.integers.Given as goal

abbrev pub invariant-loop-byte : goal.invariant-loop-byte
invariant-loop-byte l = map view l.items.items ≡ map (λ b. int_val (pos b)) (take l.byte-index l.bytes)
