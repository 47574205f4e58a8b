-- Laws of what is sorted, kept and grouped.
use Rattle.std.proofs.Common.{◌≡◌, ℕ, ◌+◌, Bool, true, false, cond, List, [], ◌∷◌, get_or, map, Option, Some, None, Ok, int_cmp, refl, ap, sym, subst, ◌∙◌}
use Rattle.std.specs.Prelude.{not, ◌||◌}
use Rattle.std.specs.List.{filter, list_any, AllByRecursion, IsDistinct}
use Rattle.std.specs.List.Sorted.{IsPermutation, IsSortedBy}
use Rattle.std.specs.Ordering.{is_lt}
use Rattle.std.proofs.lemmas.Bool.{false≢true}
use Rattle.std.proofs.lemmas.Cmp.{tied_itself, int_cmp_total, nat_list_cmp_total}
use Rattle.upon_types.specs.Same.{val_eq}
use Rattle.upon_types.specs.Val.{Val, int_val, text_val}
use Rattle.upon_std.specs.Ordering.Distinct.{distinct}
use Rattle.upon_std.specs.Ordering.Grouping.{members}
use Rattle.upon_std.specs.Ordering.Ranks.{rank_cmp}
use Rattle.upon_std.specs.Ordering.Sorting.{ascending, is_below, keys_refusal, values_or_refusal, sorted_by}
use Rattle.upon_std.proofs.OrderingLemmas.Ranks.{rank_weak, ranked_is_sorted, then_equal}
use Rattle.upon_std.proofs.OrderingLemmas.Repeats.{val_eq-Decides}
use Rattle.upon_std.proofs.OrderingLemmas.Rising.{permuted_ascending, ascending_sorted, stays_ascending}

-- what is sorted was not refused
not_refused : (refusal : Option (List ℕ)) (vs ws : List Val) → values_or_refusal refusal vs ≡ Ok ws → (refusal ≡ None) × (vs ≡ ws)
not_refused None vs ws e = let is : vs ≡ ws = cc in (refl, is)
not_refused (Some text) vs ws e = absurd (cc)

parts : (key : Val → Val) (vs ws : List Val) → sorted_by key vs ≡ Ok ws → (keys_refusal (map key vs) ≡ None) × (ascending (λ v w. is_below (key v) (key w)) vs ≡ ws)
parts key vs ws e = not_refused (keys_refusal (map key vs)) (ascending (λ v w. is_below (key v) (key w)) vs) ws e

pub sorted_permutes : (key : Val → Val) (vs ws : List Val) → sorted_by key vs ≡ Ok ws → IsPermutation vs ws
sorted_permutes key vs ws e = subst (IsPermutation vs) (parts key vs ws e).1 (permuted_ascending (λ v w. is_below (key v) (key w)) vs)

-- what is not below by rank is not below
not_below : (v w : Val) → is_lt (rank_cmp v w) ≡ false → is_below v w ≡ false
not_below (int_val y) (int_val z) h = ap is_lt (sym (then_equal (int_cmp y z))) ∙ h
not_below (text_val s) (text_val t) h = h
not_below _ _ h = refl

pub sorted_ascends : (key : Val → Val) (vs ws : List Val) → sorted_by key vs ≡ Ok ws → IsSortedBy (λ v w. is_below (key v) (key w)) ws
sorted_ascends key vs ws e =
    let both = parts key vs ws e in
    let ranked = subst (IsSortedBy (λ v w. is_lt (rank_cmp (key v) (key w)))) (ranked_is_sorted key vs both.0 ∙ both.1) (ascending_sorted (rank_weak key) vs) in
    λ k d low high. not_below (key (get_or ws (k + 1) d)) (key (get_or ws k d)) (ranked k d low high)

not_below_itself : (v : Val) → is_below v v ≡ false
not_below_itself (int_val z) = ap is_lt (tied_itself int_cmp_total z)
not_below_itself (text_val s) = ap is_lt (tied_itself nat_list_cmp_total s)
not_below_itself _ = refl

one_key : (key : Val → Val) (k y v : Val) → is_below (key y) (key v) ≡ true → val_eq (key y) k ≡ true → val_eq (key v) k ≡ true → ⊥
one_key key k y v below p q =
    let same : key y ≡ key v = (val_eq-Decides (key y) k).0 p ∙ sym ((val_eq-Decides (key v) k).0 q) in
    let never = sym below ∙ ap (λ w. is_below w (key v)) same ∙ not_below_itself (key v) in
    absurd (false≢true (sym never))

pub sorted_stays : (key : Val → Val) (vs ws : List Val) (k : Val) → sorted_by key vs ≡ Ok ws → members key k ws ≡ members key k vs
sorted_stays key vs ws k e =
    ap (members key k) (sym (parts key vs ws e).1) ∙ stays_ascending (λ v w. is_below (key v) (key w)) (λ v. val_eq (key v) k) (one_key key k) vs

-- ---- of what is kept
none_is_same : (v : Val) (ws : List Val) → AllByRecursion (λ w. val_eq v w ≡ false) (filter (λ w. not (val_eq v w)) ws)
none_is_same v [] = tt
none_is_same v (w ∷ ws) =
    elim (val_eq v w) as (λ b. val_eq v w ≡ b → AllByRecursion (λ u. val_eq v u ≡ false) (cond (not b) (w ∷ filter (λ u. not (val_eq v u)) ws) (filter (λ u. not (val_eq v u)) ws)))
    [ true ↦ λ e. none_is_same v ws | false ↦ λ e. (e, none_is_same v ws) ] refl

all_filtered : (P : Val → Type 0) (p : Val → Bool) (ws : List Val) → AllByRecursion P ws → AllByRecursion P (filter p ws)
all_filtered P p [] all = tt
all_filtered P p (w ∷ ws) all =
    elim (p w) as (λ b. AllByRecursion P (cond b (w ∷ filter p ws) (filter p ws)))
    [ true ↦ (all.0, all_filtered P p ws all.1) | false ↦ all_filtered P p ws all.1 ]

distinct_filtered : (p : Val → Bool) (ws : List Val) → IsDistinct val_eq ws → IsDistinct val_eq (filter p ws)
unfolding IsDistinct
distinct_filtered p [] d = tt
distinct_filtered p (w ∷ ws) d =
    elim (p w) as (λ b. IsDistinct val_eq (cond b (w ∷ filter p ws) (filter p ws)))
    [ true ↦ (all_filtered (λ u. val_eq w u ≡ false) p ws d.0, distinct_filtered p ws d.1) | false ↦ distinct_filtered p ws d.1 ]

pub distinct_differ : (vs : List Val) → IsDistinct val_eq (distinct val_eq vs)
unfolding IsDistinct
distinct_differ [] = tt
distinct_differ (v ∷ vs) =
    (none_is_same v (distinct val_eq vs), distinct_filtered (λ w. not (val_eq v w)) (distinct val_eq vs) (distinct_differ vs))

found_without : (u v : Val) (ws : List Val) → val_eq v u ≡ false → list_any (λ w. val_eq w u) (filter (λ w. not (val_eq v w)) ws) ≡ list_any (λ w. val_eq w u) ws
found_without u v [] e = refl
found_without u v (w ∷ ws) e =
    let rest = filter (λ x. not (val_eq v x)) ws in
    elim (val_eq v w) as (λ b. val_eq v w ≡ b → list_any (λ x. val_eq x u) (cond (not b) (w ∷ rest) rest) ≡ (val_eq w u || list_any (λ x. val_eq x u) ws)) [
      | true ↦ λ h.
          let other : val_eq w u ≡ false = ap (λ x. val_eq x u) (sym ((val_eq-Decides v w).0 h)) ∙ e in
          found_without u v ws e ∙ ap (λ b. b || list_any (λ x. val_eq x u) ws) (sym other)
      | false ↦ λ h. ap (λ b. val_eq w u || b) (found_without u v ws e)
    ] refl

pub distinct_keeps : (vs : List Val) (u : Val) → list_any (λ w. val_eq w u) (distinct val_eq vs) ≡ list_any (λ w. val_eq w u) vs
distinct_keeps [] u = refl
distinct_keeps (v ∷ vs) u =
    elim (val_eq v u) as (λ b. val_eq v u ≡ b → (b || list_any (λ w. val_eq w u) (filter (λ w. not (val_eq v w)) (distinct val_eq vs))) ≡ (b || list_any (λ w. val_eq w u) vs))
    [ true ↦ λ h. refl | false ↦ λ h. found_without u v (distinct val_eq vs) h ∙ distinct_keeps vs u ] refl
