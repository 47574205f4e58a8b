use Rattle.upon_vm_steps.proofs.Rows.{found_on_top}
use Rattle.upon_vm_steps.proofs.operands.Operands.on_top.Goals as goal

pub returns : goal.returns
returns c = found_on_top c.last.result c.args.self.now.values.items c.deref.result.now c.args.self.now.spans.items c.last.ensures.value c.deref.ensures.value c.args.self.now.paired
