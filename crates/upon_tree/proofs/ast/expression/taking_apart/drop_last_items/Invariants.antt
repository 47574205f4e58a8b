use Rattle.std.proofs.Common.{◌≤◌, vec_len}
use Rattle.upon_tree.specs.Weight.{items_weight}
use Rattle.upon_tree.proofs.ast.expression.taking_apart.drop_last_items.Given as goal

abbrev pub invariant-loop : goal.invariant-loop
invariant-loop l = items_weight l.items.items ≤ items_weight l.initial.items.items

abbrev pub decreases-loop : goal.decreases-loop
decreases-loop l = vec_len l.items
