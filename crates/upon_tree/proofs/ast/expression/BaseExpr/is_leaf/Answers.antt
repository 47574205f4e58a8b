use Rattle.std.proofs.Common.{◌∙◌, ap}
use Rattle.upon_tree.specs.Weight.{base_weight}
use Rattle.upon_tree.proofs.Weights.{weight-Var, weight-Literal}
use Rattle.upon_tree.proofs.ast.expression.BaseExpr.is_leaf.Goals as goal

pub returns-in-Var : goal.returns-in-Var
returns-in-Var c = λ _. ap base_weight c.in-Var.is ∙ weight-Var _

pub returns-in-Literal : goal.returns-in-Literal
returns-in-Literal c = λ _. ap base_weight c.in-Literal.is ∙ weight-Literal _
