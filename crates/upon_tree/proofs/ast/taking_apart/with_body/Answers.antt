use Rattle.upon_tree.proofs.StatementWeights.{weight-body}
use Rattle.upon_tree.proofs.ast.taking_apart.with_body.Goals as goal

pub returns : goal.returns
returns c = weight-body c.leaf.result c.args.stmts
