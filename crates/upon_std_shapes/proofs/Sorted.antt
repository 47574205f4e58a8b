-- Lists of integers, and of texts, in ascending order.
use Rattle.std.proofs.Common.{◌≡◌, ℕ, List, [], ◌∷◌, Bool, map, Option, Some, None, refl, sym, ap, ◌∙◌, subst}
use Rattle.std.specs.Prelude.{option_map}
use Rattle.std.specs.Cmp.Lexicographic.{slice_cmp}
use Rattle.std.specs.List.{AllByRecursion}
use Rattle.std.specs.Ordering.{nat_cmp, int_cmp}
use Rattle.std.specs.declared.cmp.Ordering.{Ordering}
use Rattle.upon_functions.specs.Outcome.{answer_of}
use Rattle.upon_types.specs.Val.{Val, int_val, text_val, Vals}
use Rattle.upon_std.specs.Basic.Items.{vals_in_list}
use Rattle.upon_std.specs.Basic.Order.{order_of, unordered}
use Rattle.upon_std.specs.Ordering.Outcomes.{listed}
use Rattle.upon_std.specs.Ordering.Sorting.{inserted, ascending, is_below, unless_ordered, first_unlike, keys_refusal, values_or_refusal, sorted_by}
use Rattle.upon_shape_spec.specs.Declared.{GivesOf}
use Rattle.upon_shape_spec.specs.Fits.{EachValue, Fits}
use Rattle.upon_shape_spec.specs.Shape.{Shape, integer_shape, list_of, text_shape}
use Rattle.upon_std_shapes.proofs.Each.{in_list, as_vals, all_map}
use Rattle.upon_std_shapes.proofs.OneKind.{of_text, of_integer, chosen}

-- ---- the items stay what they are
module _ {A : Type 0} (P : A → Type 0) (lt : A → A → Bool) where
  all_inserted : (x : A) (ys : List A) → P x → AllByRecursion P ys → AllByRecursion P (inserted lt x ys)
  all_inserted x [] h k = (h, tt)
  all_inserted x (y ∷ ys) h k = chosen (AllByRecursion P) (lt y x) (y ∷ inserted lt x ys) (x ∷ y ∷ ys) (k.0, all_inserted x ys h k.1) (h, k)

  pub all_ascending : (xs : List A) → AllByRecursion P xs → AllByRecursion P (ascending lt xs)
  all_ascending [] h = tt
  all_ascending (x ∷ xs) h = all_inserted x (ascending lt xs) h.0 (all_ascending xs h.1)

-- ---- each two of them have an order
-- values that fit the shape have an order
abbrev pub AreOrdered : Shape → Type 0
AreOrdered s = (v w : Val) → Fits s v → Fits s w → (o : Ordering) × (order_of v w ≡ Some o)

pub integers_ordered : AreOrdered integer_shape
integers_ordered v w h k =
    of_integer (λ v. (o : Ordering) × (order_of v w ≡ Some o))
    (λ y. of_integer (λ w. (o : Ordering) × (order_of (int_val y) w ≡ Some o)) (λ z. (int_cmp y z, refl)) w k) v h

pub texts_ordered : AreOrdered text_shape
texts_ordered v w h k =
    of_text (λ v. (o : Ordering) × (order_of v w ≡ Some o))
    (λ t. of_text (λ w. (o : Ordering) × (order_of (text_val t) w ≡ Some o)) (λ u. (slice_cmp nat_cmp t u, refl)) w k) v h

none_unlike : (s : Shape) → AreOrdered s → (v : Val) (ws : List Val) → Fits s v → AllByRecursion (Fits s) ws → first_unlike v ws ≡ None
none_unlike s ordered v [] h k = refl
none_unlike s ordered v (w ∷ ws) h k =
    ap (λ o. unless_ordered o w (first_unlike v ws)) (ordered v w h k.0).1 ∙ none_unlike s ordered v ws h k.1

not_refused : (s : Shape) → AreOrdered s → (vs : List Val) → AllByRecursion (Fits s) vs → keys_refusal vs ≡ None
not_refused s ordered [] h = refl
not_refused s ordered (v ∷ vs) h = ap (option_map (unordered v)) (none_unlike s ordered v vs h.0 h.1)

-- so none is refused
pub sorted_fits : (s : Shape) → AreOrdered s → (vs : Vals) → EachValue (Fits s) vs → GivesOf (Some (list_of s)) (answer_of (listed (sorted_by (λ v. v) (vals_in_list vs))))
sorted_fits s ordered vs h =
    let each = in_list (Fits s) vs h in
    let made = ascending is_below (vals_in_list vs) in
    subst (λ (refused : Option (List ℕ)). GivesOf (Some (list_of s)) (answer_of (listed (values_or_refusal refused made))))
    (sym (not_refused s ordered (map (λ v. v) (vals_in_list vs)) (all_map (Fits s) (Fits s) (λ v. v) (λ v x. x) (vals_in_list vs) each)))
    (as_vals (Fits s) made (all_ascending (Fits s) is_below (vals_in_list vs) each))
