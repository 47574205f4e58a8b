use Rattle.std.proofs.Common.{arith, sym, ap, ◌∙◌}
use Rattle.upon_tree.specs.StatementWeight.{stmt_weight}
use Rattle.upon_tree.proofs.StatementWeights.{weight-Raw, weight-InlineExpr, weight-Include, weight-IfElse, weight-ForLoop, weight-With}
use Rattle.upon_tree.proofs.ast.Stmt.into_bodies.Goals as goal

pub returns-in-Raw : goal.returns-in-Raw
returns-in-Raw c = sym (ap stmt_weight c.in-Raw.is ∙ weight-Raw c.in-Raw._span)

pub returns-in-InlineExpr : goal.returns-in-InlineExpr
returns-in-InlineExpr c = sym (ap stmt_weight c.in-InlineExpr.is ∙ weight-InlineExpr c.in-InlineExpr.inline)

pub returns-in-Include : goal.returns-in-Include
returns-in-Include c = sym (ap stmt_weight c.in-Include.is ∙ weight-Include c.in-Include.include)

pub returns-in-IfElse : goal.returns-in-IfElse
returns-in-IfElse c = c.bodies_of.ensures ∙ sym (ap stmt_weight c.in-IfElse.is ∙ weight-IfElse c.in-IfElse.block)

pub returns-in-ForLoop : goal.returns-in-ForLoop
returns-in-ForLoop c = c.bodies_of-in-ForLoop.ensures ∙ sym (ap stmt_weight c.in-ForLoop.is ∙ weight-ForLoop c.in-ForLoop.block)

pub returns-in-With : goal.returns-in-With
returns-in-With c =
    let was = ap stmt_weight c.in-With.is ∙ weight-With c.in-With.block in
    omega (arith, was, c.bodies_of-in-With.ensures)
