use Rattle.std.proofs.Common.{◌-◌, arith}
use Rattle.upon_vm_steps.proofs.Rows.{top_dropped, none_dropped}
use Rattle.upon_vm_steps.proofs.operands.Operands.drop_top.Goals as goal

pub returns-then-count-len : goal.returns-then-count-len
returns-then-count-len c = top_dropped c.args.count (c.len-len.result - c.args.count) _ _ _ _ c.args.self.now.paired (omega (arith, c.if-count-len.true, c.len-len.ensures)) c.truncate.ensures.items c.truncate-then-count-len.ensures.items

pub returns-else-count-len : goal.returns-else-count-len
returns-else-count-len c = none_dropped c.args.count _ _ _ c.args.self.now.paired (omega (arith, c.if-count-len.false, c.len-len.ensures))
