use Rattle.upon_before_spec.proofs.FaultKept.{fault_kept}
use Rattle.upon_before_spec.proofs.laws.fault_kept.Goals as goal

pub returns : goal.returns
returns c = fault_kept
