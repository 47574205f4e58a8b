use Rattle.std.proofs.Common.{◌≡◌, ◌+◌, ◌*◌, false}
use Rattle.std.specs.BTreeMap.{values}
use Rattle.upon_types.specs.Weight.{all_bare}
use Rattle.upon_types.proofs.value.+shallow.Given as goal

abbrev pub decreases-are_shallow : goal.decreases-are_shallow
decreases-are_shallow l = 3 * l.levels + 2

abbrev pub decreases-are_all_shallow : goal.decreases-are_all_shallow
decreases-are_all_shallow l = 3 * l.levels + 1

abbrev pub decreases-is_shallow : goal.decreases-is_shallow
decreases-is_shallow l = 3 * l.levels

abbrev pub invariant-are_all_shallow-loop-value : goal.invariant-are_all_shallow-loop-value
invariant-are_all_shallow-loop-value l =
    (goal.iterator-are_all_shallow-loop-value).can_next l.value-iterator ×
    (goal.iterator-are_all_shallow-loop-value).is_finite l.value-iterator ×
    (all_bare l.value-iterator ≡ false → all_bare (values l.entries) ≡ false)
