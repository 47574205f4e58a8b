use Rattle.std.proofs.Common.{◌≤◌, vec_len}
use Rattle.upon_tree.specs.StatementWeight.{stmts_weight}
use Rattle.upon_tree.proofs.ast.taking_apart.drop_leaves.Given as goal

abbrev pub invariant-loop : goal.invariant-loop
invariant-loop l = stmts_weight l.stmts.items ≤ stmts_weight l.initial.stmts.items

abbrev pub decreases-loop : goal.decreases-loop
decreases-loop l = vec_len l.stmts
