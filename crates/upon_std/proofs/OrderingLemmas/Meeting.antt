-- Values that are met one by one: each that is new gets the next place.
use Rattle.std.proofs.Common.{◌≡◌, ℕ, suc, ◌+◌, ◌<◌, Bool, true, false, cond, List, [], ◌∷◌, ◌++◌, length, get_or, map, take, Option, Some, None, refl, ap, sym, ◌∙◌, arith}
use Rattle.std.specs.Prelude.{not, ◌||◌, unwrap_or}
use Rattle.std.specs.List.{filter, list_any}
use Rattle.std.proofs.lemmas.Bool.{false≢true}
use Rattle.std.proofs.lemmas.List.{append-nil, map-append, take_more}
use Rattle.std.proofs.lemmas.List.Elements.{filter-append}
use Rattle.upon_types.specs.Same.{val_eq}
use Rattle.upon_types.specs.Val.{Val}
use Rattle.upon_types.specs.View.{view}
use Rattle.upon_types.specs.declared.value.Value.{Value}
use Rattle.upon_std.specs.Ordering.Distinct.{distinct}
use Rattle.upon_std.proofs.OrderingLemmas.LawLemmas.{distinct_keeps}
use Rattle.upon_std.proofs.OrderingLemmas.Repeats.{val_eq-Decides, list_any-push}

-- whether a value is one of these
abbrev pub has : List Val → Val → Bool
has ks v = list_any (λ k. val_eq k v) ks

-- how many of these stand before a value
abbrev pub next_place : List Val → Val → ℕ
next_place [] v = 0
next_place (k ∷ ks) v = cond (val_eq k v) 0 (suc (next_place ks v))

-- the place of a value among these, if it is one of them
abbrev pub place_in : List Val → Val → Option ℕ
place_in ks v = cond (has ks v) (Some (next_place ks v)) None

-- these, and a value that is met after them
abbrev pub met : List Val → Val → List Val
met ks x = ks ++ cond (has ks x) [] (x ∷ [])

pub neither : (a b : Bool) → (a || b) ≡ false → (a ≡ false) × (b ≡ false)
neither true b h = absurd (cc)
neither false b h = (refl, h)

pub past : (ks : List Val) (v : Val) → has ks v ≡ false → next_place ks v ≡ length ks
past [] v h = refl
past (k ∷ ks) v h =
    let both = neither (val_eq k v) (has ks v) h in
    ap (λ b. cond b 0 (suc (next_place ks v))) both.0 ∙ ap suc (past ks v both.1)

pub within : (ks : List Val) (v : Val) → has ks v ≡ true → next_place ks v < length ks
within [] v h = absurd (false≢true h)
within (k ∷ ks) v h =
    elim (val_eq k v) as (λ b. (b || has ks v) ≡ true → cond b 0 (suc (next_place ks v)) < length (k ∷ ks))
    [ true ↦ λ e. omega arith | false ↦ λ e. let later = within ks v e in omega arith ] h

pub place_is : (ks : List Val) (v : Val) → unwrap_or (place_in ks v) (length ks) ≡ next_place ks v
place_is ks v =
    elim (has ks v) as (λ b. has ks v ≡ b → unwrap_or (cond b (Some (next_place ks v)) None) (length ks) ≡ next_place ks v)
    [ true ↦ λ e. refl | false ↦ λ e. sym (past ks v e) ] refl

found_as_before : (ks : List Val) (x v : Val) → has ks v ≡ true → next_place (ks ++ x ∷ []) v ≡ next_place ks v
found_as_before [] x v h = absurd (false≢true h)
found_as_before (k ∷ ks) x v h =
    elim (val_eq k v) as (λ b. (b || has ks v) ≡ true → cond b 0 (suc (next_place (ks ++ x ∷ []) v)) ≡ cond b 0 (suc (next_place ks v)))
    [ true ↦ λ e. refl | false ↦ λ e. ap suc (found_as_before ks x v e) ] h

found_last : (ks : List Val) (x v : Val) → has ks v ≡ false → val_eq x v ≡ true → next_place (ks ++ x ∷ []) v ≡ length ks
found_last [] x v h e = ap (λ b. cond b 0 1) e
found_last (k ∷ ks) x v h e =
    let both = neither (val_eq k v) (has ks v) h in
    ap (λ b. cond b 0 (suc (next_place (ks ++ x ∷ []) v))) both.0 ∙ ap suc (found_last ks x v both.1 e)

-- the place of another value than the one that is met
other_place : (ks : List Val) (x v : Val) (b : Bool) → has ks v ≡ b → val_eq x v ≡ false → place_in (ks ++ x ∷ []) v ≡ place_in ks v
other_place ks x v true h e =
    let any : has (ks ++ x ∷ []) v ≡ true = list_any-push (λ k. val_eq k v) ks x ∙ ap (λ c. c || has ks v) e ∙ h in
    ap (λ c. cond c (Some (next_place (ks ++ x ∷ []) v)) None) any ∙ ap Some (found_as_before ks x v h)
    ∙ sym (ap (λ c. cond c (Some (next_place ks v)) None) h)
other_place ks x v false h e =
    let any : has (ks ++ x ∷ []) v ≡ false = list_any-push (λ k. val_eq k v) ks x ∙ ap (λ c. c || has ks v) e ∙ h in
    ap (λ c. cond c (Some (next_place (ks ++ x ∷ []) v)) None) any ∙ sym (ap (λ c. cond c (Some (next_place ks v)) None) h)

-- a new value is in its place
own_place : (ks : List Val) (x v : Val) → has ks v ≡ false → val_eq x v ≡ true → place_in (ks ++ x ∷ []) v ≡ Some (length ks)
own_place ks x v h e =
    let any : has (ks ++ x ∷ []) v ≡ true = list_any-push (λ k. val_eq k v) ks x ∙ ap (λ c. c || has ks v) e in
    ap (λ c. cond c (Some (next_place (ks ++ x ∷ []) v)) None) any ∙ ap Some (found_last ks x v h e)

at_place : (ks : List Val) (x v : Val) (b c : Bool) → has ks x ≡ b → val_eq x v ≡ c → cond c (Some (next_place ks x)) (place_in ks v) ≡ place_in (ks ++ cond b [] (x ∷ [])) v
at_place ks x v true true h e =
    let same : x ≡ v = (val_eq-Decides x v).0 e in
    sym (ap (λ b. cond b (Some (next_place ks x)) None) h) ∙ ap (place_in ks) same ∙ sym (ap (λ js. place_in js v) (append-nil ks))
at_place ks x v true false h e = sym (ap (λ js. place_in js v) (append-nil ks))
at_place ks x v false true h e =
    let same : x ≡ v = (val_eq-Decides x v).0 e in
    ap Some (past ks x h) ∙ sym (own_place ks x v (ap (has ks) (sym same) ∙ h) e)
at_place ks x v false false h e = sym (other_place ks x v (has ks v) refl e)

-- the places after a value is met
pub places_after : (old new : Val → Option ℕ) (ks : List Val) (x : Val) (place : ℕ) → ((v : Val) → old v ≡ place_in ks v) → place ≡ unwrap_or (old x) (length ks)
    → ((v : Val) → new v ≡ cond (val_eq x v) (Some place) (old v)) → (v : Val) → new v ≡ place_in (met ks x) v
places_after old new ks x place places found updates = λ v.
    let is : place ≡ next_place ks x = found ∙ ap (λ o. unwrap_or o (length ks)) (places x) ∙ place_is ks x in
    updates v ∙ ap (λ n. cond (val_eq x v) (Some n) (old v)) is ∙ ap (cond (val_eq x v) (Some (next_place ks x))) (places v)
    ∙ at_place ks x v (has ks x) (val_eq x v) refl refl

-- ---- the first of values that are the same, and one value more
one_apart : (y x : Val) (b c : Bool) → val_eq y x ≡ b → filter (λ v. not (val_eq y v)) (cond c [] (x ∷ [])) ≡ cond (b || c) [] (x ∷ [])
one_apart y x true true e = refl
one_apart y x false true e = refl
one_apart y x b false e = ap (λ d. cond (not d) (x ∷ []) []) e ∙ turned b
  where
    turned : (d : Bool) → cond (not d) (x ∷ []) [] ≡ cond (d || false) [] (x ∷ [])
    turned true = refl
    turned false = refl

distinct_with : (vs : List Val) (x : Val) → distinct val_eq (vs ++ x ∷ []) ≡ distinct val_eq vs ++ cond (has vs x) [] (x ∷ [])
distinct_with [] x = refl
distinct_with (y ∷ ys) x =
    ap (λ zs. y ∷ filter (λ v. not (val_eq y v)) zs) (distinct_with ys x)
    ∙ ap (λ zs. y ∷ zs) (filter-append (λ v. not (val_eq y v)) (distinct val_eq ys) (cond (has ys x) [] (x ∷ []))
    ∙ ap (λ zs. filter (λ v. not (val_eq y v)) (distinct val_eq ys) ++ zs) (one_apart y x (val_eq y x) (has ys x) refl))

pub distinct_met : (vs : List Val) (x : Val) → distinct val_eq (vs ++ x ∷ []) ≡ met (distinct val_eq vs) x
distinct_met vs x = distinct_with vs x ∙ ap (λ b. distinct val_eq vs ++ cond b [] (x ∷ [])) (sym (distinct_keeps vs x))

-- ---- whether a place is a new one
pub met_again : (ks : List Val) (x : Val) (b : Bool) → has ks x ≡ b → (next_place ks x ≡ length ks → ⊥) → ks ≡ met ks x
met_again ks x true h apart = sym (ap (λ b. ks ++ cond b [] (x ∷ [])) h ∙ append-nil ks)
met_again ks x false h apart = absurd (apart (past ks x h))

pub met_first : (ks : List Val) (x : Val) (b : Bool) → has ks x ≡ b → next_place ks x ≡ length ks → ks ++ x ∷ [] ≡ met ks x
met_first ks x true h is = let low = within ks x h in absurd (omega arith)
met_first ks x false h is = sym (ap (λ b. ks ++ cond b [] (x ∷ [])) h)

-- ---- the items of a list so far, and one item more
pub one_more : (items : List Value) (i : ℕ) (x : Value) → i < length items → x ≡ get_or items i x → map view (take (i + 1) items) ≡ map view (take i items) ++ view x ∷ []
one_more items i x within is =
    ap (map view) (take_more items i x within ∙ ap (λ y. take i items ++ y ∷ []) (sym is)) ∙ map-append view (take i items) (x ∷ [])
