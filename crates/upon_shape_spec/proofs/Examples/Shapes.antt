-- Each shape with a value that it is of, and one that it is not of; shapes of data.
use Rattle.std.proofs.Common.{◌≡◌, pos, [], ◌∷◌, true, false, codes, refl}
use Rattle.upon_types.specs.Val.{Val, none_val, bool_val, int_val, text_val}
use Rattle.upon_shape_spec.specs.Fits.{Fits, MapsRise}
use Rattle.upon_shape_spec.specs.Join.{shape_of, samples_shape, opened}
use Rattle.upon_shape_spec.specs.Shape.{Shape, any_shape, never, none_shape, truth_shape, integer_shape, text_shape, shown_values, optional, list_of, map_of, map_each, no_others, any_others}
use Rattle.upon_shape_spec.specs.Wider.{wider}
use Rattle.upon_shape_spec.proofs.Joins.{own_fits}
use Rattle.upon_shape_spec.proofs.Widths.{wider_fits}
use Rattle.upon_shape_spec.proofs.Written.{list_value, map_value, required, may_be}

-- a value fits each shape that is at least as wide as its own
fits_by : (s : Shape) (v : Val) → MapsRise v → wider s (shape_of v) ≡ true → Fits s v
fits_by s v rise e = wider_fits s (shape_of v) v e (own_fits v rise)

anything : Fits any_shape (list_value [])
anything = tt

nothing_at_all : Fits never none_val → ⊥
nothing_at_all h = cc

no_value : Fits none_shape none_val
no_value = refl

a_truth_value : Fits truth_shape (bool_val false)
a_truth_value = refl

an_integer : Fits integer_shape (int_val (pos 3))
an_integer = refl

no_integer : Fits integer_shape (text_val (codes "3")) → ⊥
no_integer h = cc

a_text : Fits text_shape (text_val (codes "a"))
a_text = refl

shown_text : Fits shown_values (text_val (codes "a"))
shown_text = refl

no_list_is_shown : Fits shown_values (list_value []) → ⊥
no_list_is_shown h = h

maybe_a_list : Fits (optional (list_of text_shape)) none_val
maybe_a_list = refl

a_list : Fits (list_of text_shape) (list_value (text_val (codes "a") ∷ text_val (codes "b") ∷ []))
a_list = (refl, (refl, tt))

no_list_of_texts : Fits (list_of text_shape) (list_value (text_val (codes "a") ∷ none_val ∷ [])) → ⊥
no_list_of_texts h = let h1 = h.1.0 in cc

-- a key that may be missing
a_map : Fits (map_of (required (codes "name") text_shape (may_be (codes "nick") text_shape no_others))) (map_value ((codes "name", text_val (codes "Ann")) ∷ []))
a_map = fits_by (map_of (required (codes "name") text_shape (may_be (codes "nick") text_shape no_others))) (map_value ((codes "name", text_val (codes "Ann")) ∷ [])) (refl, (tt, tt)) refl

-- other keys
an_open_map : Fits (map_of (required (codes "name") text_shape any_others)) (map_value ((codes "age", int_val (pos 3)) ∷ (codes "name", text_val (codes "Ann")) ∷ []))
an_open_map = fits_by (map_of (required (codes "name") text_shape any_others)) (map_value ((codes "age", int_val (pos 3)) ∷ (codes "name", text_val (codes "Ann")) ∷ [])) (refl, (tt, (tt, tt))) refl

free_keys : Fits (map_each integer_shape) (map_value ((codes "a", int_val (pos 1)) ∷ (codes "b", int_val (pos 2)) ∷ []))
free_keys = fits_by (map_each integer_shape) (map_value ((codes "a", int_val (pos 1)) ∷ (codes "b", int_val (pos 2)) ∷ [])) (refl, (tt, (tt, tt))) refl

-- ---- shapes of data
of_a_list : shape_of (list_value (text_val (codes "a") ∷ none_val ∷ [])) ≡ list_of (optional text_shape)
of_a_list = refl

of_an_empty_list : shape_of (list_value []) ≡ list_of never
of_an_empty_list = refl

-- of two samples: a key that one lacks may be missing
of_two_samples : samples_shape (map_value ((codes "a", text_val (codes "x")) ∷ (codes "b", int_val (pos 1)) ∷ []) ∷ map_value ((codes "b", none_val) ∷ []) ∷ []) ≡ map_of (may_be (codes "a") text_shape (required (codes "b") (optional integer_shape) no_others))
of_two_samples = refl

-- and other keys, of data that have more
opened_sample : opened (shape_of (map_value ((codes "a", text_val (codes "x")) ∷ []))) ≡ map_of (required (codes "a") text_shape any_others)
opened_sample = refl

-- narrower and wider shapes
text_or_none : wider (optional text_shape) text_shape ≡ true
text_or_none = refl

not_wider : wider text_shape (optional text_shape) ≡ false
not_wider = refl

-- what is required may be missing in a wider shape
missing_in_wider : wider (map_of (may_be (codes "a") text_shape any_others)) (map_of (required (codes "a") text_shape no_others)) ≡ true
missing_in_wider = refl

required_in_wider : wider (map_of (required (codes "a") text_shape any_others)) (map_of (may_be (codes "a") text_shape no_others)) ≡ false
required_in_wider = refl
