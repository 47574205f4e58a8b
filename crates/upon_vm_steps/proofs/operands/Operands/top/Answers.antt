use Rattle.std.proofs.Common.{◌-◌, arith}
use Rattle.upon_vm_steps.proofs.Rows.{top_missing, top_slices}
use Rattle.upon_vm_steps.proofs.operands.Operands.top.Goals as goal

pub returns-then-count-len : goal.returns-then-count-len
returns-then-count-len c = top_missing c.args.count _ _ c.args.self.now.paired (omega (arith, c.if-count-len.true, c.len-len.ensures))

pub returns : goal.returns
returns c = top_slices c.args.count (c.len-len.result - c.args.count) _ _ _ _ c.deref.ensures.value c.deref-2.ensures.value c.args.self.now.paired (omega (arith, c.if-count-len.false, c.len-len.ensures))
