use Rattle.upon_language_spec.proofs.Totality.OneAnswer.{tree_or_fault}
use Rattle.upon_language_spec.proofs.laws.tree_or_first_fault.Goals as goal

pub returns : goal.returns
returns c = tree_or_fault
