use Rattle.upon_vm_steps.proofs.Rows.{popped}
use Rattle.upon_vm_steps.proofs.operands.Operands.pop.Goals as goal

pub returns-in-Some-pop : goal.returns-in-Some-pop
returns-in-Some-pop c = popped _ _ _ _ _ _ c.in-Some.ensures.items c.in-Some-pop.ensures.items c.args.self.now.paired
