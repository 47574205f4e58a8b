use Rattle.upon_tree.proofs.StatementWeights.{weight-bodies}
use Rattle.upon_tree.proofs.ast.taking_apart.with_bodies.Goals as goal

pub returns : goal.returns
returns c = weight-bodies c.leaf.result c.args.stmts c.args.others
