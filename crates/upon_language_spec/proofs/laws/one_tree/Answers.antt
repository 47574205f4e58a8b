use Rattle.upon_language_spec.proofs.OneTree.Tree.{one_whole_tree}
use Rattle.upon_language_spec.proofs.laws.one_tree.Goals as goal

pub returns : goal.returns
returns c = one_whole_tree
