use Rattle.std.proofs.Common.{◌≡◌, length}
use Rattle.upon_shape_spec.specs.Known as spec
use Rattle.upon_shape_check.specs.Known.{known_view}
use Rattle.upon_shape_check.proofs.known.Known.leave_ended.Given as goal

abbrev pub invariant-loop-self : goal.invariant-loop-self
invariant-loop-self l = spec.left_at l.number (known_view l.self).operands (known_view l.self).scope (known_view l.self).opens
    ≡ spec.left_at l.number (known_view l.initial.self).operands (known_view l.initial.self).scope (known_view l.initial.self).opens

abbrev pub decreases-loop-self : goal.decreases-loop-self
decreases-loop-self l = length (known_view l.self).opens
