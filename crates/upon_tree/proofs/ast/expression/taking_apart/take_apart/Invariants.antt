use Rattle.std.proofs.Common.{◌+◌}
use Rattle.upon_tree.specs.Weight.{base_weight, expr_weight}
use Rattle.upon_tree.proofs.Weights.{measure}
use Rattle.upon_tree.proofs.ast.expression.taking_apart.take_apart.Given as goal

abbrev pub decreases-loop-next : goal.decreases-loop-next
decreases-loop-next l = measure (expr_weight l.work.hand) (base_weight l.work.bases + expr_weight l.work.exprs)
