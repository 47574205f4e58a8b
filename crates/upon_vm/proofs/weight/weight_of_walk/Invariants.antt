use Rattle.std.proofs.Common.{◌≡◌, ◌+◌, ◌<◌, ◌^◌, length}
use Rattle.upon_types.specs.Walked.{parts_left}
use Rattle.upon_vm.specs.Weight.{as_count, weight_of_parts}
use Rattle.upon_vm.proofs.weight.weight_of_walk.Given as goal

-- what was counted, and the parts to come
abbrev pub invariant-loop-walk : goal.invariant-loop-walk
invariant-loop-walk l = record {
  fits : l.sum < 2 ^ 64;
  left : as_count (l.sum + weight_of_parts (parts_left l.walk)) ≡ as_count (weight_of_parts (parts_left l.initial.walk));
}

abbrev pub decreases-loop-walk : goal.decreases-loop-walk
decreases-loop-walk l = length (parts_left l.walk)
