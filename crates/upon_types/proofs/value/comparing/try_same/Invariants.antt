-- proofs/value/comparing/try_same/Invariants.antt
use Rattle.std.proofs.Common.{◌≡◌}
use Rattle.upon_types.specs.Comparing.{agree_all, work_of_pairs}
use Rattle.upon_types.specs.Same.{val_agrees}
use Rattle.upon_types.specs.View.{view}
use Rattle.upon_types.proofs.value.comparing.try_same.Given as goal

-- the values are the same if all that is left is
abbrev pub invariant-loop-innermost : goal.invariant-loop-innermost
invariant-loop-innermost l = agree_all l.inside.items ≡ val_agrees (view l.a) (view l.b)

abbrev pub decreases-loop-innermost : goal.decreases-loop-innermost
decreases-loop-innermost l = work_of_pairs l.inside.items
