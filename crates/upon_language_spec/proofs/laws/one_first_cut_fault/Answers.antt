use Rattle.upon_language_spec.proofs.OneFirstFault.CutFault.{one_first_cut_fault}
use Rattle.upon_language_spec.proofs.laws.one_first_cut_fault.Goals as goal

pub returns : goal.returns
returns c = one_first_cut_fault
