-- The names of a list that pass a test.
use Rattle.std.proofs.Common.{◌≡◌, ◌↔◌, ◌<◌, ◌+◌, ◌||◌, ◌&&◌, ℕ, List, [], ◌∷◌, ◌++◌, cond, length, take, get_or, Bool, true, false, Contains, Bor, bytes_eq, nat_cmp, refl, sym, ap, subst, ◌∙◌}
use Rattle.std.specs.Cmp.Lexicographic.{slice_cmp}
use Rattle.std.specs.List.{filter, list_any}
use Rattle.std.proofs.lemmas.List.{append-nil}
use Rattle.std.proofs.lemmas.List.Elements.{filter_more}
use Rattle.std.proofs.lemmas.List.Kept.{IsStrictlySortedBy-filter}
use Rattle.std.proofs.lemmas.Slice.Eq.{bytes_eq-Decides}
use Rattle.upon_types.specs.Tree.{Statements}
use Rattle.upon_meaning_spec.specs.Includes.{Includes}
use Rattle.upon_needs.specs.Names.{texts, Rise}
use Rattle.upon_needs.proofs.SetsOfNames.{listed_contains}

-- those of some names that pass
abbrev pub kept : (List ℕ → Bool) → List (Bor (List ℕ)) → List (Bor (List ℕ))
kept passes names = filter (λ name. passes name.now) names

and_false : (x : Bool) → (x && false) ≡ false
and_false true = refl
and_false false = refl

pub first_true : (x y : Bool) → (x && y) ≡ true → x ≡ true
first_true true y e = refl
first_true false y e = e

pub second_true : (x y : Bool) → (x && y) ≡ true → y ≡ true
second_true true y e = e
second_true false y e = absurd cc

kept_step : (passes : List ℕ → Bool) (name : List ℕ) (one : Bor (List ℕ)) (some : List (Bor (List ℕ))) (rest : Bool) → list_any (bytes_eq name) (texts some) ≡ (rest && passes name)
    → (keep here : Bool) → passes one.now ≡ keep → bytes_eq name one.now ≡ here
    → list_any (bytes_eq name) (texts (cond keep (one ∷ some) some)) ≡ ((here || rest) && passes name)
kept_step passes name one some rest so true true keeps at =
    ap (λ b. b || list_any (bytes_eq name) (texts some)) at ∙ sym (ap passes ((bytes_eq-Decides name one.now).0 at) ∙ keeps)
kept_step passes name one some rest so true false keeps at = ap (λ b. b || list_any (bytes_eq name) (texts some)) at ∙ so
kept_step passes name one some rest so false true keeps at =
    let no = ap passes ((bytes_eq-Decides name one.now).0 at) ∙ keeps in
    so ∙ ap (λ b. rest && b) no ∙ and_false rest ∙ sym no
kept_step passes name one some rest so false false keeps at = so

kept_listed : (passes : List ℕ → Bool) (name : List ℕ) (names : List (Bor (List ℕ))) → list_any (bytes_eq name) (texts (kept passes names)) ≡ (list_any (bytes_eq name) (texts names) && passes name)
kept_listed passes name [] = refl
kept_listed passes name (one ∷ names) =
    kept_step passes name one (kept passes names) (list_any (bytes_eq name) (texts names)) (kept_listed passes name names) (passes one.now) (bytes_eq name one.now) refl refl

-- a name is among them exactly if it is one of the names and passes
pub kept_contains : (passes : List ℕ → Bool) (names : List (Bor (List ℕ))) (name : List ℕ) → Contains (texts (kept passes names)) name ↔ (Contains (texts names) name × (passes name ≡ true))
kept_contains passes names name =
    let some = listed_contains (texts (kept passes names)) name in
    let all = listed_contains (texts names) name in
    let same = kept_listed passes name names in
    (λ h. let e : (list_any (bytes_eq name) (texts names) && passes name) ≡ true = sym same ∙ some.0 h in (all.1 (first_true _ _ e), second_true _ _ e), λ h. some.1 (same ∙ ap (λ b. b && passes name) (all.0 h.0) ∙ h.1))

-- one name more, which passes
pub kept_one : (passes : List ℕ → Bool) (names some : List (Bor (List ℕ))) (i : ℕ) (d : Bor (List ℕ)) → i < length names → some ≡ kept passes (take i names) → passes (get_or names i d).now ≡ true
    → some ++ get_or names i d ∷ [] ≡ kept passes (take (i + 1) names)
kept_one passes names some i d inside so is =
    ap (λ l. l ++ get_or names i d ∷ []) so
    ∙ ap (λ b. kept passes (take i names) ++ cond b (get_or names i d ∷ []) []) (sym is)
    ∙ sym (filter_more (λ name. passes name.now) names i d inside)

-- and which does not
pub kept_past : (passes : List ℕ → Bool) (names some : List (Bor (List ℕ))) (i : ℕ) (d : Bor (List ℕ)) → i < length names → some ≡ kept passes (take i names) → passes (get_or names i d).now ≡ false
    → some ≡ kept passes (take (i + 1) names)
kept_past passes names some i d inside so is =
    so
    ∙ sym (append-nil (kept passes (take i names)))
    ∙ ap (λ b. kept passes (take i names) ++ cond b (get_or names i d ∷ []) []) (sym is)
    ∙ sym (filter_more (λ name. passes name.now) names i d inside)

-- names that rise, of which those are kept that pass
kept_texts : (passes : List ℕ → Bool) (names : List (Bor (List ℕ))) → texts (kept passes names) ≡ filter passes (texts names)
kept_texts passes [] = refl
kept_texts passes (one ∷ names) = step (passes one.now) (kept_texts passes names)
  where
    step : (keep : Bool) → texts (kept passes names) ≡ filter passes (texts names) → texts (cond keep (one ∷ kept passes names) (kept passes names)) ≡ cond keep (one.now ∷ filter passes (texts names)) (filter passes (texts names))
    step true later = ap (λ rest. one.now ∷ rest) later
    step false later = later

kept_rise : (passes : List ℕ → Bool) (names : List (Bor (List ℕ))) → Rise (texts names) → Rise (texts (kept passes names))
kept_rise passes names rise =
    subst Rise (sym (kept_texts passes names)) (IsStrictlySortedBy-filter (slice_cmp nat_cmp) passes (texts names) rise)

-- those of a tree's includes that pass
pub kept_includes : (passes : List ℕ → Bool) (tree : Statements) (names some : List (Bor (List ℕ))) → some ≡ kept passes names → Rise (texts names) → ((name : List ℕ) → Contains (texts names) name ↔ Includes name tree)
    → Rise (texts some) × ((name : List ℕ) → Contains (texts some) name ↔ (Includes name tree × (passes name ≡ true)))
kept_includes passes tree names some same rise included = (
  subst (λ l. Rise (texts l)) (sym same) (kept_rise passes names rise),
  λ name.
      let found = kept_contains passes names name in (
        λ h. let both = found.0 (subst (λ l. Contains (texts l) name) same h) in ((included name).0 both.0, both.1),
        λ h. subst (λ l. Contains (texts l) name) (sym same) (found.1 ((included name).1 h.0, h.1)),
      ),
)
