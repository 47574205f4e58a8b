use Rattle.std.proofs.Common.{◌∙◌, arith, ap}
use Rattle.upon_tree.specs.StatementWeight.{stmt_weight}
use Rattle.upon_tree.proofs.StatementWeights.{weight-IfElse, weight-ForLoop, weight-With}
use Rattle.upon_tree.proofs.ast.Stmt.drop_leaf.Goals as goal

pub unreachable-requires : goal.unreachable-requires
unreachable-requires c =
    let is = ap stmt_weight c.in-IfElse.is ∙ weight-IfElse c.in-IfElse._block in
    omega (arith, is, c.requires)

pub unreachable-requires-in-ForLoop : goal.unreachable-requires-in-ForLoop
unreachable-requires-in-ForLoop c =
    let is = ap stmt_weight c.in-ForLoop.is ∙ weight-ForLoop c.in-ForLoop._block in
    omega (arith, is, c.requires)

pub unreachable-requires-in-With : goal.unreachable-requires-in-With
unreachable-requires-in-With c =
    let is = ap stmt_weight c.in-With.is ∙ weight-With c.in-With._block in
    omega (arith, is, c.requires)
