-- What is not there.
use Rattle.std.proofs.Common.{◌≡◌, Option, Some, None, Bor, refl}
use Rattle.std.specs.Prelude.{unwrap_or}
use Rattle.upon_types.specs.Val.{none_val}
use Rattle.upon_types.specs.View.{view}
use Rattle.upon_types.specs.declared.value.Value.{Value}
use Rattle.upon_std.specs.Ordering.Keys.{lent_val}

-- what is no value at all is none
pub not_some : {A : Type 0} (o : Option A) → ((x : A) → o ≡ Some x → ⊥) → o ≡ None
not_some None h = refl
not_some (Some x) h = absurd (h x refl)

-- a value that is lent, or one that is none in its place
pub value_or_none : (found : Option (Bor Value)) (none : Bor Value) → view none.now ≡ none_val → view (unwrap_or found none).now ≡ lent_val found
value_or_none None none is = is
value_or_none (Some value) none is = refl
