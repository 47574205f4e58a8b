use Rattle.upon_tree.specs.StatementWeight.{bodies_weight, stmt_weight}
use Rattle.upon_tree.proofs.Weights.{measure}
use Rattle.upon_tree.proofs.ast.taking_apart.take_apart.Given as goal

abbrev pub decreases-loop-next : goal.decreases-loop-next
decreases-loop-next l = measure (bodies_weight l.nested.hand) (stmt_weight l.nested.above)
