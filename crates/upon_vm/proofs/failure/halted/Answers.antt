use Rattle.std.proofs.Common.{sym, subst}
use Rattle.upon_vm.specs.Failures.{FailsSo}
use Rattle.upon_vm_steps.specs.Machine.{active_of}
use Rattle.upon_vm.specs.declared.failure.Failure.TheVariants.{Error}
use Rattle.upon_vm.proofs.failure.halted.Goals as goal

pub returns-in-Fault : goal.returns-in-Fault
returns-in-Fault c = subst (λ halt. FailsSo (active_of c.args.running).running halt (Error c.in_template.result)) (sym c.in-Fault.is) c.in_template.ensures
