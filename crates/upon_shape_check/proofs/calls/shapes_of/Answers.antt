use Rattle.std.proofs.Common.{◌≡◌, ◌<◌, length, arith}
use Rattle.upon_shape_check.proofs.Taking.{taken_all, taken_none, taken_one}
use Rattle.upon_shape_check.proofs.calls.shapes_of.Goals as goal

pub returns-in-None : goal.returns-in-None
returns-in-None c =
    let below : c.loop-operand.operand-index < length c.args.operands.now = omega arith in
    taken_none c.args.operands.now c.loop-operand.operand-index c.operand-item.result c.loop-operand.shapes.items below c.operand-item.is c.in-None.is c.loop-operand.invariant

pub loop-operand-preserved : goal.loop-operand-preserved
loop-operand-preserved c =
    let below : c.loop-operand.operand-index < length c.args.operands.now = omega arith in
    taken_one c.args.operands.now c.loop-operand.operand-index c.operand-item.result _ c.in_ok-try_clone-in-Some.field-0 c.loop-operand.shapes.items c.push.new.self.items below c.operand-item.is c.in-Some.is c.in_ok-try_clone-in-Some.ensures
    c.in_ok-push-in-Some.ensures.items c.loop-operand.invariant

pub returns : goal.returns
returns c =
    let all : c.loop-operand.operand-index ≡ length c.args.operands.now = omega arith in
    taken_all c.args.operands.now c.loop-operand.operand-index c.loop-operand.shapes.items all c.loop-operand.invariant
