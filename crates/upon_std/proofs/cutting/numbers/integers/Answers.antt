use Rattle.std.proofs.Common.{◌≡◌, ◌<ℤ◌, ◌+ℤ◌, pos, to_z, of_z, w64, arith}
use Rattle.std.proofs.lemmas.Grind.{common_steps}
use Rattle.std.proofs.lemmas.Int.{ints}
use Rattle.upon_types.proofs.Views.{view-Integer}
use Rattle.upon_std.proofs.CuttingLemmas.Integers.{one_more_integer}
use Rattle.upon_std.proofs.cutting.numbers.integers.Goals as goal

pub loop-number-preserved : goal.loop-number-preserved
loop-number-preserved c =
    let y = to_z w64 c.loop-number.number-bits in
    let z = to_z w64 (of_z w64 c.args.to) in
    let next = to_z w64 (of_z w64 (y +ℤ pos 1)) in
    let below : y <ℤ z = omega (arith, ints) in
    let more : next ≡ y +ℤ pos 1 = omega (arith, ints) in
    one_more_integer y z next c.loop-number.made.items _ _ _ below more c.in_ok-push.ensures.items (view-Integer y) c.loop-number.invariant

-- the search finds no proof of this, and takes long
pub loop-number-smaller : goal.loop-number-smaller
loop-number-smaller = grind (arith, common_steps)
