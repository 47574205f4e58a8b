use Rattle.upon_shape_spec.proofs.Statements.{tree_doubts}
use Rattle.upon_shape_spec.proofs.walks.doubts_of_the_tree.Goals as goal

pub returns : goal.returns
returns c = λ declared included scope tree. tree_doubts declared included scope tree
