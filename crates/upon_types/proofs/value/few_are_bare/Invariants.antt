use Rattle.std.proofs.Common.{◌≡◌}
use Rattle.std.specs.BTreeMap.{values}
use Rattle.upon_types.specs.Weight.{all_bare}
use Rattle.upon_types.proofs.value.few_are_bare.Given as goal

abbrev pub invariant-loop-value : goal.invariant-loop-value
invariant-loop-value l =
    (goal.iterator-loop-value).can_next l.value-iterator ×
    (goal.iterator-loop-value).is_finite l.value-iterator ×
    (all_bare (values l.entries) ≡ all_bare l.value-iterator)
