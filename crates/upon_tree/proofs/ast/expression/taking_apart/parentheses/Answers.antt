use Rattle.std.proofs.Common.{rules}
use Rattle.upon_tree.proofs.Weights.{weights}
use Rattle.upon_tree.proofs.ast.expression.taking_apart.parentheses.Goals as goal

pub returns : goal.returns
returns c = search (rules, weights)
