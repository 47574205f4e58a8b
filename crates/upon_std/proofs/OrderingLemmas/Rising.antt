-- Lists that ascend: an insertion keeps them so, and elements that tie stay in their order; only one list does both.
use Rattle.std.proofs.Common.{◌≡◌, ℕ, zero, suc, ◌+◌, ◌<◌, Bool, true, false, cond, List, [], ◌∷◌, length, get_or, map, refl, ap, sym, subst, ◌∙◌, arith}
use Rattle.std.specs.Prelude.{not, ◌&&◌}
use Rattle.std.specs.Cmp.{IsStrictWeakOrder}
use Rattle.std.specs.Fn.{Mut, Called, ReturnsEach, ComparesAs}
use Rattle.std.specs.Ordering.{is_lt}
use Rattle.std.specs.declared.cmp.Ordering.{Ordering}
use denote.Ref.{Bor}
use Rattle.std.specs.List.{filter, AllByRecursion}
use Rattle.std.specs.List.Sorted.{IsSortedBy, IsStableBy, IsPermutation, ties}
use Rattle.std.proofs.lemmas.List.Sorted.{sorted_far, IsPermutation-refl, IsPermutation-cons, IsPermutation-trans, IsPermutation-middle}
use Rattle.upon_std.specs.Ordering.Sorting.{inserted, ascending}

-- no element is above one after it
abbrev pub Rises : {X : Type 0} → (X → X → Bool) → List X → Type 0
Rises lt [] = Unit {0}
Rises lt (x ∷ xs) = AllByRecursion (λ y. lt y x ≡ false) xs × Rises lt xs

-- what holds of both is what holds of a choice
pub either : {A : Type 0} (P : A → Type 0) (b : Bool) (s t : A) → (b ≡ true → P s) → (b ≡ false → P t) → P (cond b s t)
either P true s t f g = f refl
either P false s t f g = g refl

pub all_weaker : {X : Type 0} (P Q : X → Type 0) → ((x : X) → P x → Q x) → (xs : List X) → AllByRecursion P xs → AllByRecursion Q xs
all_weaker P Q f [] a = tt
all_weaker P Q f (x ∷ xs) a = (f x a.0, all_weaker P Q f xs a.1)

all_by_index : {X : Type 0} (P : X → Type 0) (xs : List X) → ((k : ℕ) (d : X) → k < length xs → P (get_or xs k d)) → AllByRecursion P xs
all_by_index P [] f = tt
all_by_index P (x ∷ xs) f = (f 0 x (omega arith), all_by_index P xs (λ k d h. f (suc k) d (omega (arith, h))))

-- what an element found first has, if all have it
first_passes : {X : Type 0} (P : X → Type 0) (p : X → Bool) (y : X) (rest zs : List X) → AllByRecursion P zs → filter p zs ≡ y ∷ rest → P y
first_passes P p y rest [] all e = absurd (cc)
first_passes P p y rest (z ∷ zs) all e =
    elim (p z) as (λ b. cond b (z ∷ filter p zs) (filter p zs) ≡ y ∷ rest → P y) [
      | true ↦ λ h. let same : z ≡ y = cc in subst P same all.0
      | false ↦ λ h. first_passes P p y rest zs all.1 h
    ] e

same_tails : {X : Type 0} (p : X → Bool) (y z : X) (ys zs : List X) → y ≡ z → filter p (y ∷ ys) ≡ filter p (z ∷ zs) → filter p ys ≡ filter p zs
same_tails p y z ys zs is e =
    elim (p y) as (λ b. cond b (y ∷ filter p ys) (filter p ys) ≡ cond b (y ∷ filter p zs) (filter p zs) → filter p ys ≡ filter p zs)
    [ true ↦ λ h. cc | false ↦ λ h. h ] (subst (λ w. filter p (y ∷ ys) ≡ filter p (w ∷ zs)) (sym is) e)

neither : (a b : Bool) → (not a && not b) ≡ true → (a ≡ false) × (b ≡ false)
neither true b h = absurd (cc)
neither false true h = absurd (cc)
neither false false h = (refl, refl)

both_fail : (a b : Bool) → a ≡ false → b ≡ false → (not a && not b) ≡ true
both_fail a b e f = ap (λ x. not x && not b) e ∙ ap not f

-- of two elements next to each other that do not both pass a test, either may stand first
turned : {X : Type 0} (a b : Bool) (y v : X) (f : List X) → (a ≡ true → b ≡ true → ⊥)
    → cond a (y ∷ cond b (v ∷ f) f) (cond b (v ∷ f) f) ≡ cond b (v ∷ cond a (y ∷ f) f) (cond a (y ∷ f) f)
turned true true y v f apart = absurd (apart refl refl)
turned true false y v f apart = refl
turned false b y v f apart = refl

-- elements of which none is below the other stay in their order, if a test picks them
stays_inserted : {X : Type 0} (lt : X → X → Bool) (p : X → Bool) → ((y v : X) → lt y v ≡ true → p y ≡ true → p v ≡ true → ⊥)
    → (v : X) (ys : List X) → filter p (inserted lt v ys) ≡ filter p (v ∷ ys)
stays_inserted lt p apart v [] = refl
stays_inserted lt p apart v (y ∷ ys) =
    either (λ zs. filter p zs ≡ filter p (v ∷ y ∷ ys)) (lt y v) _ _
    (λ e. ap (λ zs. cond (p y) (y ∷ zs) zs) (stays_inserted lt p apart v ys) ∙ turned (p y) (p v) y v (filter p ys) (apart y v e))
    (λ e. refl)

pub stays_ascending : {X : Type 0} (lt : X → X → Bool) (p : X → Bool) → ((y v : X) → lt y v ≡ true → p y ≡ true → p v ≡ true → ⊥)
    → (xs : List X) → filter p (ascending lt xs) ≡ filter p xs
stays_ascending lt p apart [] = refl
stays_ascending lt p apart (x ∷ xs) =
    stays_inserted lt p apart x (ascending lt xs) ∙ ap (λ zs. cond (p x) (x ∷ zs) zs) (stays_ascending lt p apart xs)

-- an insertion moves elements only
permuted_inserted : {X : Type 0} (lt : X → X → Bool) (x : X) (ys : List X) → IsPermutation (x ∷ ys) (inserted lt x ys)
permuted_inserted lt x [] = IsPermutation-refl (x ∷ [])
permuted_inserted lt x (y ∷ ys) =
    either (λ zs. IsPermutation (x ∷ y ∷ ys) zs) (lt y x) _ _
    (λ e. IsPermutation-trans (x ∷ y ∷ ys) (y ∷ x ∷ ys) (y ∷ inserted lt x ys) (IsPermutation-middle (x ∷ []) y ys)
    (IsPermutation-cons y (x ∷ ys) (inserted lt x ys) (permuted_inserted lt x ys)))
    (λ e. IsPermutation-refl (x ∷ y ∷ ys))

pub permuted_ascending : {X : Type 0} (lt : X → X → Bool) (xs : List X) → IsPermutation xs (ascending lt xs)
permuted_ascending lt [] = IsPermutation-refl []
permuted_ascending lt (x ∷ xs) =
    IsPermutation-trans (x ∷ xs) (x ∷ ascending lt xs) (inserted lt x (ascending lt xs))
    (IsPermutation-cons x xs (ascending lt xs) (permuted_ascending lt xs)) (permuted_inserted lt x (ascending lt xs))

same_head : {X : Type 0} (y z : X) (ys zs : List X) → y ∷ ys ≡ z ∷ zs → y ≡ z
same_head y z ys zs e = cc

nil_apart : {X A : Type 0} (x : X) (xs : List X) → [] ≡ x ∷ xs → A
nil_apart x xs e = absurd (cc)

module _ {X : Type 0} {lt : X → X → Bool} (o : IsStrictWeakOrder lt) where
  all_inserted : (P : X → Type 0) (x : X) (ys : List X) → P x → AllByRecursion P ys → AllByRecursion P (inserted lt x ys)
  all_inserted P x [] p all = (p, tt)
  all_inserted P x (y ∷ ys) p all =
      either (AllByRecursion P) (lt y x) _ _ (λ e. (all.0, all_inserted P x ys p all.1)) (λ e. (p, all))

  rises_inserted : (x : X) (ys : List X) → Rises lt ys → Rises lt (inserted lt x ys)
  rises_inserted x [] r = (tt, tt)
  rises_inserted x (y ∷ ys) r =
      either (Rises lt) (lt y x) _ _
      (λ e. (all_inserted (λ z. lt z y ≡ false) x ys (o.one_way y x e) r.0, rises_inserted x ys r.1))
      (λ e. ((e, all_weaker (λ z. lt z y ≡ false) (λ z. lt z x ≡ false) (λ z h. o.chain z y x h e) ys r.0), r))

  pub rises_ascending : (xs : List X) → Rises lt (ascending lt xs)
  rises_ascending [] = tt
  rises_ascending (x ∷ xs) = rises_inserted x (ascending lt xs) (rises_ascending xs)

  tie_apart : (x y v : X) → lt y v ≡ true → ties lt x y ≡ true → ties lt x v ≡ true → ⊥
  tie_apart x y v below with_y with_v =
      let of_y = neither (lt x y) (lt y x) with_y in
      let of_v = neither (lt x v) (lt v x) with_v in
      let not_below : lt y v ≡ false = o.chain y x v of_y.1 of_v.0 in
      cc

  ties_inserted : (x v : X) (ys : List X) → filter (ties lt x) (inserted lt v ys) ≡ filter (ties lt x) (v ∷ ys)
  ties_inserted x v ys = stays_inserted lt (ties lt x) (λ y w. tie_apart x y w) v ys

  pub ties_ascending : (x : X) (xs : List X) → filter (ties lt x) (ascending lt xs) ≡ filter (ties lt x) xs
  ties_ascending x [] = refl
  ties_ascending x (y ∷ ys) =
      ties_inserted x y (ascending lt ys) ∙ ap (λ zs. cond (ties lt x y) (y ∷ zs) zs) (ties_ascending x ys)

  not_below_itself : (x : X) (b : Bool) → lt x x ≡ b → lt x x ≡ false
  not_below_itself x true e = o.one_way x x e
  not_below_itself x false e = e

  ties_itself : (x : X) → ties lt x x ≡ true
  ties_itself x = let e = not_below_itself x (lt x x) refl in both_fail _ _ e e

  -- a list that begins with an element keeps it first among those that tie with it
  kept_first : (x : X) (xs : List X) → filter (ties lt x) (x ∷ xs) ≡ x ∷ filter (ties lt x) xs
  kept_first x xs = ap (λ b. cond b (x ∷ filter (ties lt x) xs) (filter (ties lt x) xs)) (ties_itself x)

  -- an element that stands first among those that tie with it, in a list with another head, is that head or not below it
  head_or_not_below : (y z : X) (rest zs : List X) → AllByRecursion (λ w. lt w z ≡ false) zs → y ∷ rest ≡ filter (ties lt y) (z ∷ zs)
      → (ties lt y z ≡ true → y ≡ z) × (ties lt y z ≡ false → lt y z ≡ false)
  head_or_not_below y z rest zs all e = (
    λ tied. let h = e ∙ ap (λ b. cond b (z ∷ filter (ties lt y) zs) (filter (ties lt y) zs)) tied in same_head y z rest _ h,
    λ apart. first_passes (λ w. lt w z ≡ false) (ties lt y) y rest zs all
        (sym (e ∙ ap (λ b. cond b (z ∷ filter (ties lt y) zs) (filter (ties lt y) zs)) apart)),
  )

  by_ties : (y z : X) (b c : Bool) → ties lt y z ≡ b → ties lt z y ≡ c → (ties lt y z ≡ true → y ≡ z) × (ties lt y z ≡ false → lt y z ≡ false)
      → (ties lt z y ≡ true → z ≡ y) × (ties lt z y ≡ false → lt z y ≡ false) → y ≡ z
  by_ties y z true c p q of_y of_z = of_y.0 p
  by_ties y z false true p q of_y of_z = sym (of_z.0 q)
  by_ties y z false false p q of_y of_z = of_y.0 (both_fail _ _ (of_y.1 p) (of_z.1 q))

  pub one_rising : (ys zs : List X) → Rises lt ys → Rises lt zs → ((x : X) → filter (ties lt x) ys ≡ filter (ties lt x) zs) → ys ≡ zs
  one_rising [] [] r s same = refl
  one_rising [] (z ∷ zs) r s same = let e = same z ∙ kept_first z zs in nil_apart _ _ e
  one_rising (y ∷ ys) [] r s same = let e = sym (same y) ∙ kept_first y ys in nil_apart _ _ e
  one_rising (y ∷ ys) (z ∷ zs) r s same =
      let of_y = head_or_not_below y z (filter (ties lt y) ys) zs s.0 (sym (kept_first y ys) ∙ same y) in
      let of_z = head_or_not_below z y (filter (ties lt z) zs) ys r.0 (sym (kept_first z zs) ∙ sym (same z)) in
      let heads : y ≡ z = by_ties y z (ties lt y z) (ties lt z y) refl refl of_y of_z in
      let tails : ys ≡ zs = one_rising ys zs r.1 s.1 (λ x. same_tails (ties lt x) y z ys zs heads (same x)) in
      ap (λ x. x ∷ ys) heads ∙ ap (λ xs. z ∷ xs) tails

  later_rise : (x : X) (xs : List X) → IsSortedBy lt (x ∷ xs) → IsSortedBy lt xs
  later_rise x xs up = λ k d low high.
      let next : suc k + 1 ≡ suc (k + 1) = omega arith in
      subst (λ n. lt (get_or (x ∷ xs) n d) (get_or xs k d) ≡ false) next (up (suc k) d (omega arith) (omega (arith, high)))

  rises_from_sorted : (xs : List X) → IsSortedBy lt xs → Rises lt xs
  rises_from_sorted [] up = tt
  rises_from_sorted (x ∷ xs) up = (
    all_by_index (λ y. lt y x ≡ false) xs (λ k d h. sorted_far lt o (x ∷ xs) up 0 (suc k) d (omega arith) (omega (arith, h))),
    rises_from_sorted xs (later_rise x xs up),
  )

  rises_at : (xs : List X) → Rises lt xs → (k : ℕ) (d : X) → k + 1 < length xs → lt (get_or xs (k + 1) d) (get_or xs k d) ≡ false
  rises_at [] r k d high = absurd (omega (arith, high))
  rises_at (x ∷ []) r k d high = absurd (omega (arith, high))
  rises_at (x ∷ y ∷ ys) r zero d high = r.0.0
  rises_at (x ∷ y ∷ ys) r (suc k) d high =
      let next : suc (k + 1) ≡ suc k + 1 = omega arith in
      subst (λ n. lt (get_or (x ∷ y ∷ ys) n d) (get_or (y ∷ ys) k d) ≡ false) next (rises_at (y ∷ ys) r.1 k d (omega (arith, high)))

  pub ascending_sorted : (xs : List X) → IsSortedBy lt (ascending lt xs)
  ascending_sorted xs = λ k d low high. rises_at (ascending lt xs) (rises_ascending xs) k d high

  -- a list that is sorted and keeps ties in their order is the one that insertions make
  pub sorted_is : (xs ys : List X) → IsSortedBy lt ys → IsStableBy lt xs ys → ys ≡ ascending lt xs
  sorted_is xs ys up stable =
      one_rising ys (ascending lt xs) (rises_from_sorted ys up) (rises_ascending xs) (λ x. stable x ∙ sym (ties_ascending x xs))

-- ---- what a sort by a closure makes
always : {F X R : Type 0} (g : Mut F X R) (P : X → R → Type 0) (f : F) → ((a : X) (r : R) (f' : F) → Called g f a r f' → P a r × (f' ≡ f))
    → (xs : List X) → ReturnsEach g P f xs
always g P f says [] = tt
always g P f says (a ∷ xs) = λ r f' q.
    let said = says a r f' q in
    (said.0, subst (λ h. ReturnsEach g P h xs) (sym said.1) (always g P f says xs))

pub sorted_by_closure : {F X : Type 0} {g : Mut F (Bor X × (Bor X × Unit {0})) Ordering} {f : F} (lt : X → X → Bool) → IsStrictWeakOrder lt → (xs ys : List X)
    → ((test : X → X → Bool) → IsStrictWeakOrder test → ComparesAs g test f → IsSortedBy test ys)
    → ((test : X → X → Bool) → IsStrictWeakOrder test → ComparesAs g test f → IsStableBy test xs ys)
    → ((a : Bor X × (Bor X × Unit {0})) (r : Ordering) (f' : F) → Called g f a r f' → (is_lt r ≡ lt a.0.now a.1.0.now) × (f' ≡ f))
    → ys ≡ ascending lt xs
sorted_by_closure {F} {X} {g} {f} lt o xs ys up stable says =
    let compares : ComparesAs g lt f = record { at = always g (λ a r. is_lt r ≡ lt a.0.now a.1.0.now) f says } in
    sorted_is o xs ys (up lt o compares) (stable lt o compares)

-- ---- the same order of what the elements become
inserted-map : {X Y : Type 0} (f : X → Y) (lt : Y → Y → Bool) (x : X) (xs : List X)
    → map f (inserted (λ a b. lt (f a) (f b)) x xs) ≡ inserted lt (f x) (map f xs)
inserted-map f lt x [] = refl
inserted-map f lt x (y ∷ ys) =
    elim (lt (f y) (f x)) as (λ b. map f (cond b (y ∷ inserted (λ a b. lt (f a) (f b)) x ys) (x ∷ y ∷ ys)) ≡ cond b (f y ∷ inserted lt (f x) (map f ys)) (f x ∷ f y ∷ map f ys))
    [ true ↦ ap (λ zs. f y ∷ zs) (inserted-map f lt x ys) | false ↦ refl ]

pub ascending-map : {X Y : Type 0} (f : X → Y) (lt : Y → Y → Bool) (xs : List X)
    → map f (ascending (λ a b. lt (f a) (f b)) xs) ≡ ascending lt (map f xs)
ascending-map f lt [] = refl
ascending-map f lt (x ∷ xs) =
    inserted-map f lt x (ascending (λ a b. lt (f a) (f b)) xs) ∙ ap (inserted lt (f x)) (ascending-map f lt xs)

-- ---- two tests that agree on the elements of a list
module _ {X : Type 0} (P : X → Type 0) (lt below : X → X → Bool) (agree : (x y : X) → P x → P y → lt x y ≡ below x y) where
  all_inserted_by : (x : X) (ys : List X) → P x → AllByRecursion P ys → AllByRecursion P (inserted below x ys)
  all_inserted_by x [] p all = (p, tt)
  all_inserted_by x (y ∷ ys) p all =
      either (AllByRecursion P) (below y x) _ _ (λ e. (all.0, all_inserted_by x ys p all.1)) (λ e. (p, all))

  all_ascending : (xs : List X) → AllByRecursion P xs → AllByRecursion P (ascending below xs)
  all_ascending [] all = tt
  all_ascending (x ∷ xs) all = all_inserted_by x (ascending below xs) all.0 (all_ascending xs all.1)

  inserted_agree : (x : X) (ys : List X) → P x → AllByRecursion P ys → inserted lt x ys ≡ inserted below x ys
  inserted_agree x [] p all = refl
  inserted_agree x (y ∷ ys) p all =
      ap (λ b. cond b (y ∷ inserted lt x ys) (x ∷ y ∷ ys)) (agree y x all.0 p)
      ∙ ap (λ zs. cond (below y x) (y ∷ zs) (x ∷ y ∷ ys)) (inserted_agree x ys p all.1)

  pub ascending_agree : (xs : List X) → AllByRecursion P xs → ascending lt xs ≡ ascending below xs
  ascending_agree [] all = refl
  ascending_agree (x ∷ xs) all =
      ap (inserted lt x) (ascending_agree xs all.1) ∙ inserted_agree x (ascending below xs) all.0 (all_ascending xs all.1)
