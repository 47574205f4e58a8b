use Rattle.std.proofs.Common.{◌<◌, arith}
use Rattle.upon_std.proofs.BasicLemmas.Powers.{power_positive, digit_written}
use Rattle.upon_std.proofs.basic.decimal.push_last_digits.Goals as goal

pub nonzero_div-digit : goal.nonzero_div-digit
nonzero_div-digit c = rw c.pow.ensures (power_positive _)

pub loop-left-preserved : goal.loop-left-preserved
loop-left-preserved c =
    let below : c.from.result < 128 = omega (arith, c.from.ensures) in
    record {
      within = omega arith;
      written = digit_written _ _ _ _ c.loop-left.left c.args.size c.pow.result c.from.result (omega arith) c.pow.ensures
          c.from.ensures (c.push.ensures.ascii below) c.in_ok-push.ensures.bytes c.loop-left.invariant.written;
    }
