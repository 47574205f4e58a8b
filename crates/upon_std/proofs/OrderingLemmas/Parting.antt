-- Values that are put into groups one by one.
use Rattle.std.proofs.Common.{◌≡◌, ℕ, zero, suc, ◌<◌, ◌≤◌, Bool, true, false, cond, List, [], ◌∷◌, ◌++◌, length, get_or, set, map, refl, ap, sym, subst, ◌∙◌, arith}
use Rattle.std.specs.Prelude.{◌||◌}
use Rattle.std.specs.List.{AllByRecursion, IsDistinct}
use Rattle.std.proofs.lemmas.List.{append-nil, map-append}
use Rattle.std.proofs.lemmas.List.Elements.{filter-append}
use Rattle.upon_types.specs.Same.{val_eq}
use Rattle.upon_types.specs.Val.{Val}
use Rattle.upon_std.specs.Ordering.Distinct.{distinct}
use Rattle.upon_std.specs.Ordering.Grouping.{members, group_val, grouped}
use Rattle.upon_std.specs.Ordering.Groups.{added_at, group_parts, parted}
use Rattle.upon_std.specs.declared.ordering.grouping.Group.{Group}
use Rattle.upon_std.proofs.OrderingLemmas.LawLemmas.{distinct_differ, distinct_keeps}
use Rattle.upon_std.proofs.OrderingLemmas.Meeting.{has, met, neither, next_place, distinct_met}
use Rattle.upon_std.proofs.OrderingLemmas.Repeats.{val_eq-Decides}

turned : (v w : Val) (b : Bool) → val_eq w v ≡ b → val_eq v w ≡ false → b ≡ false
turned v w false e apart = refl
turned v w true e apart = sym ((val_eq-Decides v w).1 (sym ((val_eq-Decides w v).0 e))) ∙ apart

-- ---- the members of one group, and a value more
members_push : (key : Val → Val) (k v : Val) (vs : List Val) → members key k (vs ++ v ∷ []) ≡ members key k vs ++ cond (val_eq (key v) k) (v ∷ []) []
members_push key k v vs = filter-append (λ w. val_eq (key w) k) vs (v ∷ [])

joined : (key : Val → Val) (k v : Val) (vs : List Val) → val_eq (key v) k ≡ true → members key k (vs ++ v ∷ []) ≡ members key k vs ++ v ∷ []
joined key k v vs e = members_push key k v vs ∙ ap (λ b. members key k vs ++ cond b (v ∷ []) []) e

unmoved : (key : Val → Val) (k v : Val) (vs : List Val) → val_eq (key v) k ≡ false → members key k (vs ++ v ∷ []) ≡ members key k vs
unmoved key k v vs e = members_push key k v vs ∙ ap (λ b. members key k vs ++ cond b (v ∷ []) []) e ∙ append-nil (members key k vs)

no_members : (key : Val → Val) (k : Val) (vs : List Val) → has (map key vs) k ≡ false → members key k vs ≡ []
no_members key k [] h = refl
no_members key k (v ∷ vs) h =
    let both = neither (val_eq (key v) k) (has (map key vs) k) h in
    ap (λ b. cond b (v ∷ members key k vs) (members key k vs)) both.0 ∙ no_members key k vs both.1

-- ---- all groups, and a value more
module _ (key : Val → Val) (vs : List Val) (v : Val) where
  abbrev before : Val → Val × List Val
  before k = (k, members key k vs)

  abbrev after : Val → Val × List Val
  after k = (k, members key k (vs ++ v ∷ []))

  all_unmoved : (ks : List Val) → AllByRecursion (λ k. val_eq (key v) k ≡ false) ks → map before ks ≡ map after ks
  all_unmoved [] apart = refl
  all_unmoved (k ∷ ks) apart =
      ap (λ ms. (k, ms) ∷ map before ks) (sym (unmoved key k v vs apart.0)) ∙ ap (λ gs. after k ∷ gs) (all_unmoved ks apart.1)

  added : (ks : List Val) → IsDistinct val_eq ks → (has ks (key v) ≡ false → members key (key v) vs ≡ [])
      → added_at (next_place ks (key v)) (key v) v (map before ks) ≡ map after (met ks (key v))
  unfolding IsDistinct
  added [] differ none =
      ap (λ ms. (key v, ms) ∷ [])
      (sym (joined key (key v) v vs ((val_eq-Decides (key v) (key v)).1 refl) ∙ ap (λ ms. ms ++ v ∷ []) (none refl)))
  added (k ∷ ks) differ none =
      elim (val_eq k (key v)) as (λ b. val_eq k (key v) ≡ b → (((b || has ks (key v)) ≡ false) → members key (key v) vs ≡ [])
      → added_at (cond b 0 (suc (next_place ks (key v)))) (key v) v (before k ∷ map before ks) ≡ map after ((k ∷ ks) ++ cond (b || has ks (key v)) [] (key v ∷ []))) [
        | true ↦ λ e none.
            let same : k ≡ key v = (val_eq-Decides k (key v)).0 e in
            let apart = subst (λ j. AllByRecursion (λ i. val_eq j i ≡ false) ks) same differ.0 in
            ap (λ ms. (k, ms) ∷ map before ks) (sym (joined key k v vs ((val_eq-Decides (key v) k).1 (sym same))))
            ∙ ap (λ gs. after k ∷ gs) (all_unmoved ks apart ∙ ap (map after) (sym (append-nil ks)))
        | false ↦ λ e none.
            ap (λ ms. (k, ms) ∷ added_at (next_place ks (key v)) (key v) v (map before ks))
            (sym (unmoved key k v vs (turned k (key v) (val_eq (key v) k) refl e)))
            ∙ ap (λ gs. after k ∷ gs) (added ks differ.1 none)
      ] refl none

pub parted_more : (key : Val → Val) (vs : List Val) (v : Val)
    → added_at (next_place (distinct val_eq (map key vs)) (key v)) (key v) v (parted key vs) ≡ parted key (vs ++ v ∷ [])
parted_more key vs v =
    let ks = map key vs in
    let none = λ (h : has (distinct val_eq ks) (key v) ≡ false). no_members key (key v) vs (sym (distinct_keeps ks (key v)) ∙ h) in
    added key vs v (distinct val_eq ks) (distinct_differ ks) none
    ∙ ap (map (λ k. (k, members key k (vs ++ v ∷ [])))) (sym (distinct_met ks (key v)) ∙ ap (distinct val_eq) (sym (map-append key vs (v ∷ []))))

-- ---- the groups of the code
pub added_last : (n : ℕ) (k v : Val) (gs : List (Val × List Val)) → length gs ≤ n → added_at n k v gs ≡ gs ++ (k, v ∷ []) ∷ []
added_last n k v [] past = refl
added_last zero k v (g ∷ gs) past = absurd (omega (arith, past))
added_last (suc n) k v (g ∷ gs) past = ap (λ hs. g ∷ hs) (added_last n k v gs (omega (arith, past)))

pub added_inside : (n : ℕ) (k v : Val) (groups : List Group) (old new : Group) → n < length groups → old ≡ get_or groups n old
    → group_parts new ≡ ((group_parts old).0, (group_parts old).1 ++ v ∷ []) → map group_parts (set groups n new) ≡ added_at n k v (map group_parts groups)
added_inside n k v [] old new within is made = absurd (omega (arith, within))
added_inside zero k v (g ∷ groups) old new within is made =
    ap (λ p. p ∷ map group_parts groups) (made ∙ ap (λ h. ((group_parts h).0, (group_parts h).1 ++ v ∷ [])) is)
added_inside (suc n) k v (g ∷ groups) old new within is made = ap (λ gs. group_parts g ∷ gs) (added_inside n k v groups old new (omega (arith, within)) is made)

-- ---- the maps of all groups
pub map-map : {X Y Z : Type 0} (f : X → Y) (g : Y → Z) (xs : List X) → map g (map f xs) ≡ map (λ x. g (f x)) xs
map-map f g [] = refl
map-map f g (x ∷ xs) = ap (λ zs. g (f x) ∷ zs) (map-map f g xs)

pub maps_of_parted : (key : Val → Val) (vs : List Val) → map (λ g. group_val g.0 g.1) (parted key vs) ≡ grouped key vs
maps_of_parted key vs = map-map (λ k. (k, members key k vs)) (λ g. group_val g.0 g.1) (distinct val_eq (map key vs))
