use Rattle.std.proofs.Common.{◌≤◌, vec_len}
use Rattle.upon_tree.specs.Weight.{entries_weight}
use Rattle.upon_tree.proofs.ast.expression.taking_apart.drop_last_entries.Given as goal

abbrev pub invariant-loop : goal.invariant-loop
invariant-loop l = entries_weight l.entries.items ≤ entries_weight l.initial.entries.items

abbrev pub decreases-loop : goal.decreases-loop
decreases-loop l = vec_len l.entries
