-- Ends of renderings that are no faults of a template.
use Rattle.upon_meaning_spec.specs.Outcome.{End, good, fails, too_deep}

-- it ends well
abbrev pub EndsWell : End → Type 0
EndsWell good = Unit {0}
EndsWell (fails f) = ⊥
EndsWell too_deep = ⊥

-- it ends well, or includes are too deep one inside another
abbrev pub EndsWithoutFault : End → Type 0
EndsWithoutFault good = Unit {0}
EndsWithoutFault (fails f) = ⊥
EndsWithoutFault too_deep = Unit {0}
