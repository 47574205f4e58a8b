use Rattle.std.proofs.Common.{◌≡◌, ◌+◌, ◌-◌, length, refl, arith}
use Rattle.upon_shape_check.specs.Known.{operand_view}
use Rattle.upon_shape_check.proofs.Stepping.{taken_missing, taken_split}
use Rattle.upon_shape_check.proofs.known.Known.take.Goals as goal

pub returns-then-count-len : goal.returns-then-count-len
returns-then-count-len c =
    let os = c.args.self.now.operands in
    (taken_missing operand_view os.items c.args.count (omega (arith, c.len-len.ensures, os.ok.0)), refl)

pub returns : goal.returns
returns c =
    let os = c.args.self.now.operands in
    let all : c.args.count + (c.len-len.result - c.args.count) ≡ length os.items = omega (arith, c.len-len.ensures, os.ok.0) in
    (taken_split operand_view os.items _ _ c.args.count (c.len-len.result - c.args.count) all c.in_ok-split_off.ensures.items c.in_ok-split_off.ensures.tail, refl)
