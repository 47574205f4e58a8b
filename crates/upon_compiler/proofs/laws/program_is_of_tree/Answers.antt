use Rattle.upon_compiler.proofs.Told.{told_tree}
use Rattle.upon_compiler.proofs.laws.program_is_of_tree.Goals as goal

pub returns : goal.returns
returns c = told_tree
