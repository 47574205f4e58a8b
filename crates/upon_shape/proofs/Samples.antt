-- Samples in a row are values in a row, and what a value or a sample fits.
use Rattle.std.proofs.Common.{◌≡◌, ℕ, ◌<◌, ◌+◌, List, [], ◌∷◌, length, drop, get_or, Result, Ok, Err, IfOk, refl, sym, ap, subst, ◌∙◌, inl, inr}
use Rattle.upon_types.specs.Val.{Val}
use Rattle.upon_types.specs.View.{view, vals_of, vals_view}
use Rattle.upon_types.specs.declared.value.Value.{Value}
use Rattle.upon_meaning_spec.specs.MapOrder.{IsAmong}
use Rattle.upon_shape_spec.specs.Cut.{cut_to, RiseTo, AllRiseTo}
use Rattle.upon_shape_spec.specs.Fits.{Fits}
use Rattle.upon_shape_spec.specs.Join.{join_shapes, shape_of, items_shape, samples_shape}
use Rattle.upon_shape_spec.specs.Shape.{Shape as SpecShape}
use Rattle.upon_shape_spec.proofs.CutShapes.{cut_joined, own_cut_fits, sample_cut_fits}
use Rattle.upon_shape.proofs.Steps.{cut_before}

pub from_both : {A E : Type 0} (r : Result A E) (P Q R : A → Type 0) → ((a : A) → P a → Q a → R a) → IfOk r P → IfOk r Q → IfOk r R
from_both (Ok a) P Q R f p q = f a p q
from_both (Err e) P Q R f p q = tt

pub from_one : {A E : Type 0} (r : Result A E) (P Q : A → Type 0) → ((a : A) → P a → Q a) → IfOk r P → IfOk r Q
from_one (Ok a) P Q f p = f a p
from_one (Err e) P Q f p = tt

-- what has a value's own shape, cut at a depth, fits the value
pub own : (n : ℕ) (s : SpecShape) (v : Val) → s ≡ cut_to n (shape_of v) → RiseTo n v → Fits s v
own n s v e rise = subst (λ (x : SpecShape). Fits x v) (sym e) (own_cut_fits n v rise)

pub items_shape-samples : (vs : List Val) → items_shape (vals_of vs) ≡ samples_shape vs
items_shape-samples [] = refl
items_shape-samples (v ∷ vs) = ap (join_shapes (shape_of v)) (items_shape-samples vs)

among_rise : (n : ℕ) (vs : List Val) (v : Val) → AllRiseTo n (vals_of vs) → IsAmong v vs → RiseTo n v
among_rise n [] v h is = absurd is
among_rise n (w ∷ ws) v h (inl same) = subst (RiseTo n) same h.0
among_rise n (w ∷ ws) v h (inr later) = among_rise n ws v h.1 later

pub of_samples_fit : (n : ℕ) (vs : List Val) (s : SpecShape) → s ≡ cut_to n (items_shape (vals_of vs)) → AllRiseTo n (vals_of vs) → (v : Val) → IsAmong v vs → Fits s v
of_samples_fit n vs s e rise v is =
    subst (λ (x : SpecShape). Fits x v) (sym (e ∙ ap (cut_to n) (items_shape-samples vs))) (sample_cut_fits n vs v is (among_rise n vs v rise is))

-- ---- one more value in front
-- the values from an item on
from_item : (vs : List Value) (i next : ℕ) (item : Value) → next ≡ i + 1 → i < length vs → item ≡ get_or vs i item → drop i vs ≡ item ∷ drop next vs
from_item vs i next item e h is = cut_before vs i item h is ∙ ap (λ n. item ∷ drop n vs) (sym e)

pub shape_before : (levels : ℕ) (vs : List Value) (i next : ℕ) (item : Value) (s t : SpecShape) → next ≡ i + 1 → i < length vs → item ≡ get_or vs i item
    → s ≡ cut_to levels (items_shape (vals_view (drop next vs))) → t ≡ join_shapes (cut_to levels (shape_of (view item))) s → t ≡ cut_to levels (items_shape (vals_view (drop i vs)))
shape_before levels vs i next item s t e h is known joined =
    joined
    ∙ ap (join_shapes (cut_to levels (shape_of (view item)))) known
    ∙ sym (cut_joined levels (shape_of (view item)) (items_shape (vals_view (drop next vs))))
    ∙ ap (λ (all : List Value). cut_to levels (items_shape (vals_view all))) (sym (from_item vs i next item e h is))

pub rise_before : (levels : ℕ) (vs : List Value) (i next : ℕ) (item : Value) → next ≡ i + 1 → i < length vs → item ≡ get_or vs i item
    → RiseTo levels (view item) → AllRiseTo levels (vals_view (drop next vs)) → AllRiseTo levels (vals_view (drop i vs))
rise_before levels vs i next item e h is first rest =
    subst (λ (all : List Value). AllRiseTo levels (vals_view all)) (sym (from_item vs i next item e h is)) (first, rest)
