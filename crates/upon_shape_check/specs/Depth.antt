-- Why nothing is put into a literal.
use Rattle.std.specs.Prelude.{◌≡◌, ℕ, Bool, true, false, Option, Some, None}
use Rattle.upon_types.specs.declared.types.Span.{Span}
use Rattle.upon_shape_spec.specs.Depth.{is_deeper}
use Rattle.upon_shape_spec.specs.Shape.{Shape}
use Rattle.upon_shape_check.specs.declared.unchecked.Unchecked.{Unchecked}
use Rattle.upon_shape_check.specs.declared.unchecked.Unchecked.TheVariants.{Memory, TooDeep}

-- what is put into a literal has more levels than these; if either is not sure to come to something, nothing is put
abbrev pub is_too_deep : ℕ → Option Shape → Option Shape → Bool
is_too_deep n None item = false
is_too_deep n (Some into) None = false
is_too_deep n (Some into) (Some item) = is_deeper n item

-- why nothing is put into the literal here: that, or there is no memory
abbrev pub RefusesLiteral : Span → Bool → Unchecked → Type 0
RefusesLiteral at deep (Memory error) = deep ≡ false
RefusesLiteral at deep (TooDeep place) = (place ≡ at) × (deep ≡ true)
