use Rattle.std.proofs.Common.{◌≡◌, ◌++◌, flat_map, length}
use Rattle.upon_types.specs.Walked.{parts_left}
use Rattle.upon_std.specs.Ordering.PartSpelling.{part_spelling}
use Rattle.upon_std.proofs.ordering.spelling.spelling.Given as goal

-- what is spelled so far, and after it the parts that are left, is the whole
abbrev pub invariant-loop-walk : goal.invariant-loop-walk
invariant-loop-walk l =
    l.numbers.items ++ flat_map part_spelling (parts_left l.walk) ≡ l.initial.numbers.items ++ flat_map part_spelling (parts_left l.initial.walk)

abbrev pub decreases-loop-walk : goal.decreases-loop-walk
decreases-loop-walk l = length (parts_left l.walk)
