-- Searches that are sure to find something.
use Rattle.std.specs.Prelude.{Option, Some, None}
use Rattle.upon_types.specs.Val.{Val}
use Rattle.upon_lookup.specs.Finding.{Finding, found, at_fault}
use Rattle.upon_meaning_spec.specs.Evaluation.{Operand}
use Rattle.upon_shape_spec.specs.Fits.{Fits}
use Rattle.upon_shape_spec.specs.Shape.{Shape}

-- something is found, and this holds of it
abbrev pub Finds : {A : Type 0} → (A → Type 0) → Finding A → Type 0
Finds P (found a) = P a
Finds P (at_fault fault) = ⊥

-- if there is a shape, a value of it is found
abbrev pub FindsShape : Option Shape → Finding Val → Type 0
FindsShape None x = Unit {0}
FindsShape (Some s) x = Finds (Fits s) x

-- if there is a shape, an expression comes to a value of it
abbrev pub ComesTo : Option Shape → Finding Operand → Type 0
ComesTo None x = Unit {0}
ComesTo (Some s) x = Finds (λ o. Fits s o.value) x
