-- The first include of each of some names, as a walk along includes finds them.
use Rattle.std.proofs.Common.{arith, ◌≡◌, ◌⊎◌, ◌<◌, ◌≤◌, ◌+◌, ◌∙◌, ◌&&◌, ◌||◌, not, ℕ, List, [], ◌∷◌, cond, drop, get_or, length, map, take, unwrap_or, Option, Some, None, Bool, true, false, Bor, bytes_eq, nat_cmp, refl, sym, ap, inl, inr}
use Rattle.std.specs.BTreeSet.{BTreeSet, UpdatesBy, IsUnchanged}
use Rattle.std.specs.Cmp.Lexicographic.{slice_cmp}
use Rattle.std.specs.List.{filter, list_any}
use Rattle.std.specs.Ordering.{is_eq}
use Rattle.std.specs.Slice.{IsGetRangeResult}
use Rattle.std.proofs.lemmas.List.{drop_all, drop_more, take-map, take_all}
use Rattle.std.proofs.lemmas.Map.Text.{is_eq-slice_cmp}
use Rattle.std.proofs.lemmas.Slice.Eq.{bytes_eq-Decides}
use Rattle.upon_types.specs.Path.{Ident}
use Rattle.upon_needs.specs.Names.{has_name, texts}
use Rattle.upon_needs.specs.Places.{include_at}
use Rattle.upon_needs.specs.declared.places.IncludePlace.{IncludePlace}
use Rattle.upon_shape_check.specs.Pictures.{with_picture}
use Rattle.upon_calls.specs.Pictures.{first_includes, with_pictures}

-- of names that are looked for, the first include of each
abbrev pub found : (List ℕ → Bool) → List Ident → List Ident
found wanted [] = []
found wanted (word ∷ words) = cond (wanted word.text)
    (word ∷ found (λ name. wanted name && not (bytes_eq word.text name)) words)
    (found wanted words)

and_true : (b : Bool) → (b && true) ≡ b
and_true true = refl
and_true false = refl

and_false : (b : Bool) → (b && false) ≡ false
and_false true = refl
and_false false = refl

filter-filter : {X : Type 0} (p q : X → Bool) (xs : List X) → filter p (filter q xs) ≡ filter (λ x. p x && q x) xs
filter-filter p q [] = refl
filter-filter {X} p q (x ∷ xs) = step (q x) (filter-filter p q xs)
  where
    both : List X
    both = filter (λ x. p x && q x) xs

    step : (there : Bool) → filter p (filter q xs) ≡ both → filter p (cond there (x ∷ filter q xs) (filter q xs)) ≡ cond (p x && there) (x ∷ both) both
    step true later = (λ i. cond (p x) (x ∷ later i) (later i)) ∙ sym (ap (λ b. cond b (x ∷ both) both) (and_true (p x)))
    step false later = later ∙ sym (ap (λ b. cond b (x ∷ both) both) (and_false (p x)))

-- a name that is not wanted is none of those that are
unwanted : (wanted : List ℕ → Bool) (one name : List ℕ) → wanted one ≡ false → wanted name ≡ (wanted name && not (bytes_eq one name))
unwanted wanted one name never = by_test (bytes_eq one name) refl
  where
    by_test : (same : Bool) → bytes_eq one name ≡ same → wanted name ≡ (wanted name && not same)
    by_test true is = sym (ap wanted ((bytes_eq-Decides one name).0 is)) ∙ never ∙ sym (and_false (wanted name))
    by_test false is = sym (and_true (wanted name))

-- they are those of the first includes that have such a name
pub found_first : (words : List Ident) (wanted : List ℕ → Bool) → found wanted words ≡ filter (λ word. wanted word.text) (first_includes words)
found_first [] wanted = refl
found_first (word ∷ words) wanted = step (wanted word.text) refl (found_first words)
  where
    others : List Ident
    others = filter (λ later. not (bytes_eq word.text later.text)) (first_includes words)

    step : (is : Bool) → wanted word.text ≡ is → ((some : List ℕ → Bool) → found some words ≡ filter (λ word. some word.text) (first_includes words))
        → cond is (word ∷ found (λ name. wanted name && not (bytes_eq word.text name)) words) (found wanted words) ≡ cond is (word ∷ filter (λ word. wanted word.text) others) (filter (λ word. wanted word.text) others)
    step true is later = ap (λ rest. word ∷ rest) (later (λ name. wanted name && not (bytes_eq word.text name)) ∙ sym (filter-filter (λ word. wanted word.text) (λ later. not (bytes_eq word.text later.text)) (first_includes words)))
    step false never later =
        later wanted
        ∙ (λ i. filter (λ later. unwanted wanted word.text later.text never i) (first_includes words))
        ∙ sym (filter-filter (λ word. wanted word.text) (λ later. not (bytes_eq word.text later.text)) (first_includes words))

-- where none is found, none of the includes has a name that is wanted
pub none_found : (wanted : List ℕ → Bool) (words : List Ident) (name : List ℕ) → found wanted words ≡ [] → wanted name ≡ true → list_any (bytes_eq name) (map (λ word. word.text) words) ≡ true → ⊥
none_found wanted [] name none is listed = absurd cc
none_found wanted (word ∷ words) name none is listed = step (wanted word.text) (bytes_eq name word.text) refl refl none listed (λ none listed. none_found wanted words name none is listed)
  where
    step : (wants same : Bool) → wanted word.text ≡ wants → bytes_eq name word.text ≡ same
        → cond wants (word ∷ found (λ name. wanted name && not (bytes_eq word.text name)) words) (found wanted words) ≡ []
        → (same || list_any (bytes_eq name) (map (λ word. word.text) words)) ≡ true
        → (found wanted words ≡ [] → list_any (bytes_eq name) (map (λ word. word.text) words) ≡ true → ⊥) → ⊥
    step true same so at none listed later = absurd cc
    step false true so at none listed later =
        let never : true ≡ false = sym is ∙ ap wanted ((bytes_eq-Decides name word.text).0 at) ∙ so in absurd cc
    step false false so at none listed later = later none listed

-- ---- a walk, which takes names that are found out of a set
without : (at old z : Bool) → at ≡ z → cond at false old ≡ (old && not z)
without true old z is = sym (ap (λ z. old && not z) (sym is) ∙ and_false old)
without false old z is = sym (ap (λ z. old && not z) (sym is) ∙ and_true old)

-- a set with one name less
takes_one : (old new : BTreeSet (Bor (List ℕ))) (one name : List ℕ) → UpdatesBy (λ x y. slice_cmp nat_cmp x.now y.now) (λ k. slice_cmp nat_cmp one k.now) old new false → has_name new name ≡ (has_name old name && not (bytes_eq one name))
takes_one old new one name h =
    h.0 (record { ref_ptr = (0, 0); now = name }) ∙ without (is_eq (slice_cmp nat_cmp one name)) (has_name old name) (bytes_eq one name) (is_eq-slice_cmp one name)

-- the first hundred names, or all where there are fewer
in_all : (names : List (Bor (List ℕ))) → (100 < 0) ⊎ (length names < 100) → length names ≤ 100
in_all names (inl never) = absurd (omega (arith, never))
in_all names (inr less) = omega (arith, less)

first_names : (names : Bor (List (Bor (List ℕ)))) (r : Option (Bor (List (Bor (List ℕ))))) → IsGetRangeResult names.now 0 100 r → (unwrap_or r names).now ≡ take 100 names.now
first_names names None is = sym (take_all 100 names.now (in_all names.now is.0))
first_names names (Some some) is = is.0.2

pub first_hundred : (names shown : Bor (List (Bor (List ℕ)))) (r : Option (Bor (List (Bor (List ℕ))))) → IsGetRangeResult names.now 0 100 r → shown ≡ unwrap_or r names → texts shown.now ≡ take 100 (texts names.now)
first_hundred names shown r is got =
    ap (λ some. texts some.now) got ∙ ap texts (first_names names r is) ∙ sym (take-map (λ name. name.now) 100 names.now)

-- what is still to be shown, after a text
abbrev pub to_show : (Ident → List ℕ) → BTreeSet (Bor (List ℕ)) → List IncludePlace → List ℕ → List ℕ
to_show picture left places text = with_pictures text (map picture (found (has_name left) (map include_at places)))

-- one place more, whose name is found
pub found_one : (picture : Ident → List ℕ) (places : List IncludePlace) (i : ℕ) (d : IncludePlace) (old new : BTreeSet (Bor (List ℕ))) (text shown whole : List ℕ) → i < length places
    → has_name old (get_or places i d).name.now ≡ true → UpdatesBy (λ x y. slice_cmp nat_cmp x.now y.now) (λ k. slice_cmp nat_cmp (get_or places i d).name.now k.now) old new false
    → shown ≡ with_picture text (picture (include_at (get_or places i d))) → to_show picture old (drop i places) text ≡ whole → to_show picture new (drop (i + 1) places) shown ≡ whole
found_one picture places i d old new text shown whole inside has takes put so_far =
    let word = include_at (get_or places i d) in
    let rest = map include_at (drop (i + 1) places) in
    let fewer : List ℕ → Bool = λ name. has_name old name && not (bytes_eq word.text name) in
    (λ j. with_pictures (put j) (map picture (found (λ name. takes_one old new word.text name takes j) rest)))
    ∙ sym (ap (λ b. with_pictures text (map picture (cond b (word ∷ found fewer rest) (found (has_name old) rest)))) has)
    ∙ sym (ap (λ places. to_show picture old places text) (drop_more places i d inside))
    ∙ so_far

-- and whose name is not
pub found_no : (picture : Ident → List ℕ) (places : List IncludePlace) (i : ℕ) (d : IncludePlace) (old new : BTreeSet (Bor (List ℕ))) (text shown whole : List ℕ) → i < length places
    → has_name old (get_or places i d).name.now ≡ false → IsUnchanged old new → shown ≡ text → to_show picture old (drop i places) text ≡ whole → to_show picture new (drop (i + 1) places) shown ≡ whole
found_no picture places i d old new text shown whole inside lacks same put so_far =
    let word = include_at (get_or places i d) in
    let rest = map include_at (drop (i + 1) places) in
    let fewer : List ℕ → Bool = λ name. has_name old name && not (bytes_eq word.text name) in
    (λ j. with_pictures (put j) (map picture (found (has_name (record { keys = same j })) rest)))
    ∙ sym (ap (λ b. with_pictures text (map picture (cond b (word ∷ found fewer rest) (found (has_name old) rest)))) lacks)
    ∙ sym (ap (λ places. to_show picture old places text) (drop_more places i d inside))
    ∙ so_far

-- the last one
pub all_shown : (picture : Ident → List ℕ) (places : List IncludePlace) (i : ℕ) (first left : BTreeSet (Bor (List ℕ))) (wanted : List ℕ → Bool) (words : List Ident) (old new : List ℕ) → length places ≤ i → map include_at places ≡ words
    → ((name : List ℕ) → has_name first name ≡ wanted name) → to_show picture left (drop i places) new ≡ to_show picture first places old → new ≡ with_pictures old (map picture (filter (λ word. wanted word.text) (first_includes words)))
all_shown picture places i first left wanted words old new done are same so_far =
    sym (ap (λ places. to_show picture left places new) (drop_all i places done))
    ∙ so_far
    ∙ (λ j. with_pictures old (map picture (found (λ name. same name j) (are j))))
    ∙ ap (λ words. with_pictures old (map picture words)) (found_first words wanted)
