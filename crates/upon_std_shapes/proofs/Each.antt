-- What holds of each value of a list holds of each that is made of them.
use Rattle.std.proofs.Common.{ℕ, zero, suc, List, [], ◌∷◌, ◌++◌, Bool, false, map, subst, sym}
use Rattle.std.specs.Prelude.{filter, reverse, slice_get, not}
use Rattle.std.specs.List.{AllByRecursion}
use Rattle.std.proofs.lemmas.List.{reverse-append}
use Rattle.upon_types.specs.Val.{Val, Vals, no_vals, val_then}
use Rattle.upon_types.specs.View.{vals_of}
use Rattle.upon_std.specs.Basic.Items.{vals_in_list}
use Rattle.upon_std.specs.Ordering.Distinct.{distinct}
use Rattle.upon_shape_spec.specs.Fits.{EachValue, Held}
use Rattle.upon_std_shapes.proofs.OneKind.{chosen}

-- ---- lists of values
pub in_list : (P : Val → Type 0) (vs : Vals) → EachValue P vs → AllByRecursion P (vals_in_list vs)
in_list P no_vals h = tt
in_list P (val_then v vs) h = (h.0, in_list P vs h.1)

pub as_vals : (P : Val → Type 0) (vs : List Val) → AllByRecursion P vs → EachValue P (vals_of vs)
as_vals P [] h = tt
as_vals P (v ∷ vs) h = (h.0, as_vals P vs h.1)

-- ---- lists
module _ {A : Type 0} (P : A → Type 0) where
  pub all_append : (xs ys : List A) → AllByRecursion P xs → AllByRecursion P ys → AllByRecursion P (xs ++ ys)
  all_append [] ys h k = k
  all_append (x ∷ xs) ys h k = (h.0, all_append xs ys h.1 k)

  pub all_reverse : (xs : List A) → AllByRecursion P xs → AllByRecursion P (reverse xs)
  all_reverse [] h = tt
  all_reverse (x ∷ xs) h = subst (AllByRecursion P) (sym (reverse-append (x ∷ []) xs)) (all_append (reverse xs) (x ∷ []) (all_reverse xs h.1) (h.0, tt))

  pub all_filter : (test : A → Bool) (xs : List A) → AllByRecursion P xs → AllByRecursion P (filter test xs)
  all_filter test [] h = tt
  all_filter test (x ∷ xs) h = chosen (AllByRecursion P) (test x) (x ∷ filter test xs) (filter test xs) (h.0, all_filter test xs h.1) (all_filter test xs h.1)

  pub all_distinct : (same : A → A → Bool) (xs : List A) → AllByRecursion P xs → AllByRecursion P (distinct same xs)
  all_distinct same [] h = tt
  all_distinct same (x ∷ xs) h = (h.0, all_filter (λ y. not (same x y)) (distinct same xs) (all_distinct same xs h.1))

pub all_map : {A B : Type 0} (P : A → Type 0) (Q : B → Type 0) (f : A → B) → ((x : A) → P x → Q (f x)) → (xs : List A) → AllByRecursion P xs → AllByRecursion Q (map f xs)
all_map P Q f h [] k = tt
all_map P Q f h (x ∷ xs) k = (h x k.0, all_map P Q f h xs k.1)

-- what holds of whatever a function makes holds of each item of a list that the function is mapped over
pub all_made : {A B : Type 0} (Q : B → Type 0) (f : A → B) → ((x : A) → Q (f x)) → (xs : List A) → AllByRecursion Q (map f xs)
all_made Q f h [] = tt
all_made Q f h (x ∷ xs) = (h x, all_made Q f h xs)

-- the value at an index, if there is one
pub all_at : (P : Val → Type 0) (vs : List Val) (i : ℕ) → AllByRecursion P vs → Held false P (slice_get vs i)
all_at P [] i h = tt
all_at P (v ∷ vs) zero h = h.0
all_at P (v ∷ vs) (suc i) h = all_at P vs i h.1
