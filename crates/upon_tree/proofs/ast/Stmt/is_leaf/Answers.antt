use Rattle.std.proofs.Common.{◌∙◌, ap}
use Rattle.upon_tree.specs.StatementWeight.{stmt_weight}
use Rattle.upon_tree.proofs.StatementWeights.{weight-Raw, weight-InlineExpr, weight-Include}
use Rattle.upon_tree.proofs.ast.Stmt.is_leaf.Goals as goal

pub returns-in-Raw : goal.returns-in-Raw
returns-in-Raw c = λ _. ap stmt_weight c.in-Raw.is ∙ weight-Raw _

pub returns-in-InlineExpr : goal.returns-in-InlineExpr
returns-in-InlineExpr c = λ _. ap stmt_weight c.in-InlineExpr.is ∙ weight-InlineExpr _

pub returns-in-Include : goal.returns-in-Include
returns-in-Include c = λ _. ap stmt_weight c.in-Include.is ∙ weight-Include _
