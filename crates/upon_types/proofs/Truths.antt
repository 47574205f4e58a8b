-- Whether a list or a map counts as true, by its length.
use Rattle.std.proofs.Common.{◌≡◌, ◌==◌, List, [], ◌∷◌, length, not, Bool, true, false, refl, arith, ne_eqb}
use Rattle.std.specs.declared.alloc.Global.{Global}
use Rattle.std.specs.Prelude.{String}
use Rattle.upon_types.specs.declared.value.Value.{Value}
use Rattle.upon_types.specs.Val.{list_val, map_val}
use Rattle.upon_types.specs.Truth.{truth}
use Rattle.upon_types.specs.View.{vals_view, entries_view}

pub truth-list : (vs : List Value) → not (length vs == 0) ≡ truth (list_val (vals_view vs))
truth-list [] = refl
truth-list (v ∷ vs) = rw (ne_eqb (length (v ∷ vs)) 0 (λ z. omega arith))

pub truth-map : (b : Bool) (es : List (String Global × Value)) → (b ≡ true → length es ≡ 0) → (length es ≡ 0 → b ≡ true) → not b ≡ truth (map_val (entries_view es))
truth-map b [] to back = rw (back refl)
truth-map true (e ∷ es) to back = let none = to refl in absurd (omega (arith, none))
truth-map false (e ∷ es) to back = refl
