-- The groups of a list have each of its items once.
use Rattle.std.proofs.Common.{◌≡◌, Bool, true, false, cond, List, [], ◌∷◌, ◌++◌, map, refl, ap, sym, subst, ◌∙◌}
use Rattle.std.specs.Prelude.{not, ◌&&◌, ◌||◌}
use Rattle.std.specs.List.{filter, flat_map, list_any, AllByRecursion, IsDistinct}
use Rattle.std.specs.List.Sorted.{IsPermutation}
use Rattle.std.proofs.lemmas.Bool.{false≢true}
use Rattle.std.proofs.lemmas.List.Sorted.{IsPermutation-refl, IsPermutation-trans, IsPermutation-append_right, IsPermutation-filter_both}
use Rattle.upon_types.specs.Same.{val_eq}
use Rattle.upon_types.specs.Val.{Val}
use Rattle.upon_std.specs.Ordering.Distinct.{distinct}
use Rattle.upon_std.specs.Ordering.Grouping.{members, group_val, group_items, grouped}
use Rattle.upon_std.proofs.OrderingLemmas.Giving.{val_list-vals_of}
use Rattle.upon_std.proofs.OrderingLemmas.LawLemmas.{distinct_differ, distinct_keeps}
use Rattle.upon_std.proofs.OrderingLemmas.Repeats.{val_eq-Decides, filter_twice}
use Rattle.upon_std.proofs.OrderingLemmas.Rising.{all_weaker}

itself : (v : Val) → val_eq v v ≡ true
itself v = (val_eq-Decides v v).1 refl

turned : (v w : Val) → val_eq v w ≡ false → val_eq w v ≡ true → ⊥
turned v w apart same = absurd (false≢true (sym apart ∙ (val_eq-Decides v w).1 (sym ((val_eq-Decides w v).0 same))))

or_right : (a b : Bool) → b ≡ true → (a || b) ≡ true
or_right true b h = refl
or_right false b h = h

later_holds : (a b : Bool) → (a ≡ true → ⊥) → (a || b) ≡ true → b ≡ true
later_holds true b never h = absurd (never refl)
later_holds false b never h = h

-- whether a value's key is one of these
abbrev has_key : (Val → Val) → List Val → Val → Bool
has_key key ks v = list_any (λ k. val_eq k (key v)) ks

each_has_key : (key : Val → Val) (vs : List Val) → AllByRecursion (λ v. has_key key (map key vs) v ≡ true) vs
each_has_key key [] = tt
each_has_key key (v ∷ vs) = (
  ap (λ b. b || has_key key (map key vs) v) (itself (key v)),
  all_weaker (λ w. has_key key (map key vs) w ≡ true) (λ w. has_key key (map key (v ∷ vs)) w ≡ true) (λ w h. or_right _ _ h) vs (each_has_key key vs),
)

-- the values without the members of a group
abbrev others : (Val → Val) → Val → List Val → List Val
others key k vs = filter (λ v. not (val_eq (key v) k)) vs

others_have : (key : Val → Val) (k : Val) (ks vs : List Val) → AllByRecursion (λ v. has_key key (k ∷ ks) v ≡ true) vs
    → AllByRecursion (λ v. has_key key ks v ≡ true) (others key k vs)
others_have key k ks [] all = tt
others_have key k ks (v ∷ vs) all =
    elim (val_eq (key v) k) as (λ b. val_eq (key v) k ≡ b → AllByRecursion (λ w. has_key key ks w ≡ true) (cond (not b) (v ∷ others key k vs) (others key k vs))) [
      | true ↦ λ e. others_have key k ks vs all.1
      | false ↦ λ e. (later_holds (val_eq k (key v)) (has_key key ks v) (turned (key v) k e) all.0, others_have key k ks vs all.1)
    ] refl

and_false : (a : Bool) → false ≡ (a && false)
and_false true = refl
and_false false = refl

-- a member of another group is no member of this one
still_member : (key : Val → Val) (k j v : Val) (b c : Bool) → val_eq k j ≡ false → val_eq (key v) j ≡ b → val_eq (key v) k ≡ c → b ≡ (not c && b)
still_member key k j v false c apart e f = and_false (not c)
still_member key k j v true false apart e f = refl
still_member key k j v true true apart e f =
    let same : k ≡ j = sym ((val_eq-Decides (key v) k).0 f) ∙ (val_eq-Decides (key v) j).0 e in
    absurd (false≢true (sym apart ∙ (val_eq-Decides k j).1 same))

members_of_others : (key : Val → Val) (k j : Val) (vs : List Val) → val_eq k j ≡ false → members key j (others key k vs) ≡ members key j vs
members_of_others key k j vs apart =
    filter_twice (λ v. not (val_eq (key v) k)) (λ v. val_eq (key v) j) (λ v. val_eq (key v) j)
    (λ v. still_member key k j v (val_eq (key v) j) (val_eq (key v) k) apart refl refl) vs

rest_agree : (key : Val → Val) (k : Val) (ks vs : List Val) → AllByRecursion (λ j. val_eq k j ≡ false) ks
    → flat_map (λ j. members key j (others key k vs)) ks ≡ flat_map (λ j. members key j vs) ks
rest_agree key k [] vs apart = refl
rest_agree key k (j ∷ ks) vs apart =
    ap (λ xs. xs ++ flat_map (λ i. members key i (others key k vs)) ks) (members_of_others key k j vs apart.0)
    ∙ ap (λ xs. members key j vs ++ xs) (rest_agree key k ks vs apart.1)

members_permute : (key : Val → Val) (ks vs : List Val) → IsDistinct val_eq ks → AllByRecursion (λ v. has_key key ks v ≡ true) vs
    → IsPermutation vs (flat_map (λ k. members key k vs) ks)
unfolding IsDistinct
members_permute key [] [] differ all = IsPermutation-refl []
members_permute key [] (v ∷ vs) differ all = absurd (false≢true all.0)
members_permute key (k ∷ ks) vs differ all =
    let rest = others key k vs in
    let split = IsPermutation-filter_both (λ v. val_eq (key v) k) (λ v. not (val_eq (key v) k)) (λ v. refl) vs in
    let later = members_permute key ks rest differ.1 (others_have key k ks vs all) in
    let same = subst (IsPermutation rest) (rest_agree key k ks vs differ.0) later in
    IsPermutation-trans vs (members key k vs ++ rest) (members key k vs ++ flat_map (λ j. members key j vs) ks) split
    (IsPermutation-append_right (members key k vs) rest (flat_map (λ j. members key j vs) ks) same)

same_holds : (P Q : Val → Bool) (vs : List Val) → ((v : Val) → P v ≡ Q v) → AllByRecursion (λ v. Q v ≡ true) vs → AllByRecursion (λ v. P v ≡ true) vs
same_holds P Q vs same all = all_weaker (λ v. Q v ≡ true) (λ v. P v ≡ true) (λ v h. same v ∙ h) vs all

items_of_groups : (key : Val → Val) (ks vs : List Val) → flat_map group_items (map (λ k. group_val k (members key k vs)) ks) ≡ flat_map (λ k. members key k vs) ks
items_of_groups key [] vs = refl
items_of_groups key (k ∷ ks) vs =
    ap (λ xs. xs ++ flat_map group_items (map (λ j. group_val j (members key j vs)) ks)) (val_list-vals_of (members key k vs))
    ∙ ap (λ xs. members key k vs ++ xs) (items_of_groups key ks vs)

pub groups_permute : (key : Val → Val) (vs : List Val) → IsPermutation vs (flat_map group_items (grouped key vs))
groups_permute key vs =
    let ks = distinct val_eq (map key vs) in
    let all = same_holds (has_key key ks) (has_key key (map key vs)) vs (λ v. distinct_keeps (map key vs) (key v)) (each_has_key key vs) in
    subst (IsPermutation vs) (sym (items_of_groups key ks vs)) (members_permute key ks vs (distinct_differ (map key vs)) all)
