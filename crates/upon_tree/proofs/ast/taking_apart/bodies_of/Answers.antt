use Rattle.std.proofs.Common.{arith, ap}
use Rattle.upon_tree.specs.StatementWeight.{else_weight}
use Rattle.upon_tree.proofs.StatementWeights.{weight-Scope}
use Rattle.upon_tree.proofs.ast.taking_apart.bodies_of.Goals as goal

pub returns-in-Some : goal.returns-in-Some
returns-in-Some c = omega (arith, weight-Scope c.args.body, weight-Scope c.in-Some.others, ap else_weight c.in-Some.is)

pub returns-in-None : goal.returns-in-None
returns-in-None c = omega (arith, weight-Scope c.args.body, ap else_weight c.in-None.is)
