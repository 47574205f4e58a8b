use Rattle.upon_language_spec.proofs.OneFirstFault.FirstFault.{one_first_fault}
use Rattle.upon_language_spec.proofs.laws.one_first_fault.Goals as goal

pub returns : goal.returns
returns c = one_first_fault
