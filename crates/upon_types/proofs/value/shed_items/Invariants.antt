use Rattle.std.proofs.Common.{◌≡◌, ◌≤◌, vec_len}
use Rattle.upon_types.specs.Weight.{items_bulk, all_bare}
use Rattle.upon_types.proofs.value.shed_items.Given as goal

abbrev pub invariant-loop-last : goal.invariant-loop-last
invariant-loop-last l = (items_bulk l.items.items ≤ items_bulk l.initial.items.items) × (all_bare l.items.items ≡ all_bare l.initial.items.items)

abbrev pub decreases-loop-last : goal.decreases-loop-last
decreases-loop-last l = vec_len l.items
