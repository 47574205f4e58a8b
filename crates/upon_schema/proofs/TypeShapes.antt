-- The shapes of the types that a schema names are those of their values.
use Rattle.std.proofs.Common.{◌+◌, ◌<◌, drop, get_or, length, ◌∙◌, ◌≡◌, ℕ, List, ◌∷◌, Option, Some, codes, sym, subst, inl, inr}
use Rattle.upon_types.specs.Val.{Val, none_val, bool_val, int_val, text_val, list_val, map_val, Vals, val_then, key_of}
use Rattle.upon_types.specs.View.{view, vals_view}
use Rattle.upon_types.specs.declared.value.Value.{Value}
use Rattle.upon_shape.proofs.Steps.{cut_before}
use Rattle.upon_shape_spec.specs.Shape.{Shape, any_shape, list_of}
use Rattle.upon_shape_spec.specs.Fits.{Fits, MapsRise}
use Rattle.upon_shape_spec.specs.Join.{join_shapes}
use Rattle.upon_shape_spec.proofs.Joins.{first_fits, second_fits}
use Rattle.upon_schema.specs.Covers.{Covers}
use Rattle.upon_schema.specs.Valid.{IsOfType, IsOfTypes, TypeAllows, TypeHolds}
use Rattle.upon_schema.proofs.Fitting.{each_any}

-- ---- each type
pub array_fits : (v : Val) → MapsRise v → IsOfType (codes "array") v → Fits (list_of any_shape) v
array_fits none_val rise h = absurd (cc)
array_fits (bool_val b) rise h = absurd (cc)
array_fits (int_val n) rise h = absurd (cc)
array_fits (text_val bytes) rise h = absurd (cc)
array_fits (list_val vs) rise h = each_any vs
array_fits (map_val es) rise h = absurd (cc)

-- of a shape that is equal, and a name that is equal
pub covers_type : (s t : Shape) (name other : List ℕ) → s ≡ t → name ≡ other → ((v : Val) → MapsRise v → IsOfType other v → Fits t v) → (v : Val) → MapsRise v → IsOfType name v → Fits s v
covers_type s t name other e f fits v rise h = subst (λ (x : Shape). Fits x v) (sym e) (fits v rise (subst (λ (x : List ℕ). IsOfType x v) f h))

-- ---- some types
pub covers_more : (s t : Shape) (name : List ℕ) (names : Vals) → Covers s (IsOfType name) → Covers t (IsOfTypes names) → (v : Val) → MapsRise v → IsOfTypes (val_then (text_val name) names) v → Fits (join_shapes s t) v
covers_more s t name names f g v rise (inl h) = first_fits s t v (f v rise h)
covers_more s t name names f g v rise (inr h) = second_fits s t v (g v rise h)

-- ---- what the keyword has
pub of_one_type : (schema : Val) (name : List ℕ) → Some (text_val name) ≡ key_of (codes "type") schema → (v : Val) → TypeHolds schema v → IsOfType name v
of_one_type schema name e v h = subst (λ (o : Option Val). TypeAllows o v) (sym e) h

pub of_some_types : (schema : Val) (names : Vals) → Some (list_val names) ≡ key_of (codes "type") schema → (v : Val) → TypeHolds schema v → IsOfTypes names v
of_some_types schema names e v h = subst (λ (o : Option Val). TypeAllows o v) (sym e) h

-- ---- one name more
pub types_before : (names : List Value) (i j : ℕ) (x : Value) (name : List ℕ) (s t u : Shape) → j + 1 ≡ i → j < length names → x ≡ get_or names j x → view x ≡ text_val name
    → u ≡ join_shapes s t → Covers s (IsOfType name) → Covers t (IsOfTypes (vals_view (drop i names))) → (v : Val) → MapsRise v → IsOfTypes (vals_view (drop j names)) v → Fits u v
types_before names i j x name s t u next less is text joined f g v rise h =
    let cut : drop j names ≡ x ∷ drop i names = cut_before names j x less is ∙ (λ k. x ∷ drop (next k) names) in
    let some : IsOfTypes (val_then (view x) (vals_view (drop i names))) v = subst (λ (ws : List Value). IsOfTypes (vals_view ws) v) cut h in
    subst (λ (w : Shape). Fits w v) (sym joined)
    (covers_more s t name (vals_view (drop i names)) f g v rise (subst (λ (w : Val). IsOfTypes (val_then w (vals_view (drop i names))) v) text some))
