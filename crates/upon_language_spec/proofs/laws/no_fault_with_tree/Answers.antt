use Rattle.upon_language_spec.proofs.NoTreeWithFault.Fault.{no_tree_with_row}
use Rattle.upon_language_spec.proofs.laws.no_fault_with_tree.Goals as goal

pub returns : goal.returns
returns c = λ delimiters s tree row p place reason texts has f. no_tree_with_row delimiters s texts row p place reason f tree has
