use Rattle.upon_language_spec.proofs.NoTreeWithFault.Fault.{no_tree_with_fault}
use Rattle.upon_language_spec.proofs.laws.no_tree_with_fault.Goals as goal

pub returns : goal.returns
returns c = no_tree_with_fault
