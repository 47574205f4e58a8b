use Rattle.std.proofs.Common.{◌∙◌}
use Rattle.upon_tree.proofs.Weights.{weight-Base}
use Rattle.upon_tree.proofs.ast.expression.Expr.leaf.Goals as goal

pub returns : goal.returns
returns c = weight-Base c.leaf.result ∙ c.leaf.ensures
