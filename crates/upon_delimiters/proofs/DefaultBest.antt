-- Three bytes tell the best default delimiter.
use Rattle.std.proofs.Common.{◌≡◌, ◌⊎◌, inl, inr, ℕ, zero, suc, ◌+◌, ◌<◌, ◌≤◌, ◌==◌, List, [], ◌∷◌, length, take, drop, get_or, Bool, true, false, Option, None, IfSome, if◌then◌else◌, add-zero, arith, lit<, refl, sym, ap, ◌∙◌, subst}
use Rattle.std.proofs.lemmas.List.{drop_more, get_or_past}
use Rattle.std.specs.Str.{IsUtf8, bytes_eq}
use Rattle.upon_types.specs.declared.types.Delimiter.{Delimiter}
use Rattle.upon_types.specs.Span.{LiesIn}
use Rattle.upon_language_spec.specs.DefaultDelimiters.{default_delimiters}
use Rattle.upon_language_spec.specs.Search.{Occurs, NoneAt, IsBest, IsBestDelimiter, text_at, kind_at}
use Rattle.upon_language_spec.proofs.Computation.Tests.{same_number}
use Rattle.upon_language_spec.proofs.Computation.DefaultTexts.{default_utf8}
use Rattle.upon_language_spec.proofs.SpansLieIn.Offsets.{Occurs-from_drop, occurs_lies_in}
use Rattle.upon_delimiters.specs.DefaultBest.{hyphened, begin_with, end_with, best_of}
use Rattle.upon_delimiters.proofs.Ways.{occurs_reads}

-- what holds of each of twelve indexes
each_of_12 : (P : ℕ → Type 0) → P 0 → P 1 → P 2 → P 3 → P 4 → P 5 → P 6 → P 7 → P 8 → P 9 → P 10 → P 11 → (i : ℕ) → i < 12 → P i
each_of_12 P a b c d e f g h j k l m zero inside = a
each_of_12 P a b c d e f g h j k l m (suc zero) inside = b
each_of_12 P a b c d e f g h j k l m (suc (suc zero)) inside = c
each_of_12 P a b c d e f g h j k l m (suc (suc (suc zero))) inside = d
each_of_12 P a b c d e f g h j k l m (suc (suc (suc (suc zero)))) inside = e
each_of_12 P a b c d e f g h j k l m (suc (suc (suc (suc (suc zero))))) inside = f
each_of_12 P a b c d e f g h j k l m (suc (suc (suc (suc (suc (suc zero)))))) inside = g
each_of_12 P a b c d e f g h j k l m (suc (suc (suc (suc (suc (suc (suc zero))))))) inside = h
each_of_12 P a b c d e f g h j k l m (suc (suc (suc (suc (suc (suc (suc (suc zero)))))))) inside = j
each_of_12 P a b c d e f g h j k l m (suc (suc (suc (suc (suc (suc (suc (suc (suc zero))))))))) inside = k
each_of_12 P a b c d e f g h j k l m (suc (suc (suc (suc (suc (suc (suc (suc (suc (suc zero)))))))))) inside = l
each_of_12 P a b c d e f g h j k l m (suc (suc (suc (suc (suc (suc (suc (suc (suc (suc (suc zero))))))))))) inside = m
each_of_12 P a b c d e f g h j k l m (suc (suc (suc (suc (suc (suc (suc (suc (suc (suc (suc (suc i)))))))))))) inside = absurd (omega (arith, inside))

abbrev text : ℕ → List ℕ
text i = text_at default_delimiters i

-- the index of a default delimiter's text, by its bytes
abbrev place : List ℕ → ℕ
place d =
    if bytes_eq d (text 0) then 0
    else (if bytes_eq d (text 1) then 1
    else (if bytes_eq d (text 2) then 2
    else (if bytes_eq d (text 3) then 3
    else (if bytes_eq d (text 4) then 4
    else (if bytes_eq d (text 5) then 5
    else (if bytes_eq d (text 6) then 6
    else (if bytes_eq d (text 7) then 7
    else (if bytes_eq d (text 8) then 8
    else (if bytes_eq d (text 9) then 9
    else (if bytes_eq d (text 10) then 10 else 11))))))))))

place_of : (i : ℕ) → i < 12 → place (text i) ≡ i
place_of = each_of_12 (λ i. place (text i) ≡ i) refl refl refl refl refl refl refl refl refl refl refl refl

two_or_three : (i : ℕ) → i < 12 → (length (text i) ≡ 2) ⊎ (length (text i) ≡ 3)
two_or_three = each_of_12 (λ i. (length (text i) ≡ 2) ⊎ (length (text i) ≡ 3))
    (inl refl) (inl refl) (inr refl) (inr refl) (inl refl) (inl refl) (inr refl) (inr refl) (inl refl) (inl refl) (inr refl) (inr refl)

-- a text of three bytes begins with a hyphen, or with `{` and ends with a hyphen
abbrev Hyphened : List ℕ → Type 0
Hyphened d = (length d ≡ 2) ⊎ (get_or d 0 0 ≡ 45) ⊎ ((get_or d 0 0 ≡ 123) × (get_or d 2 0 ≡ 45))

has_hyphen : (i : ℕ) → i < 12 → Hyphened (text i)
has_hyphen = each_of_12 (λ i. Hyphened (text i))
    (inl refl) (inl refl) (inr (inr (refl, refl))) (inr (inl refl)) (inl refl) (inl refl) (inr (inr (refl, refl))) (inr (inl refl)) (inl refl) (inl refl) (inr (inr (refl, refl))) (inr (inl refl))

-- a third byte, where a text has one, is this
abbrev Third : List ℕ → ℕ → Type 0
Third d c = 2 < length d → get_or d 2 0 ≡ c

abbrev Told : List ℕ → Type 0
Told d = (c : ℕ) → Third d c → best_of (get_or d 0 0) (get_or d 1 0) c ≡ None → ⊥

ended : (b : ℕ) → (best_of 45 b 125 ≡ None → ⊥) → (c : ℕ) → 125 ≡ c → best_of 45 b c ≡ None → ⊥
ended b h c e = subst (λ x. best_of 45 b x ≡ None → ⊥) e h

-- the bytes of each delimiter are told
told : (i : ℕ) → i < 12 → Told (text i)
told = each_of_12 (λ i. Told (text i))
    (λ c h e. absurd (cc)) (λ c h e. absurd (cc)) (λ c h e. absurd (cc)) (λ c h. ended 125 (λ e. absurd (cc)) c (h (lit< tt)))
    (λ c h e. absurd (cc)) (λ c h e. absurd (cc)) (λ c h e. absurd (cc)) (λ c h. ended 37 (λ e. absurd (cc)) c (h (lit< tt)))
    (λ c h e. absurd (cc)) (λ c h e. absurd (cc)) (λ c h e. absurd (cc)) (λ c h. ended 35 (λ e. absurd (cc)) c (h (lit< tt)))

by_case : {X : Type 0} (P : X → Type 0) (t : Bool) (x y : X) → (t ≡ true → P x) → (t ≡ false → P y) → P (if t then x else y)
by_case P true x y h k = h refl
by_case P false x y h k = k refl

inside_or_past : (m n : ℕ) → (m < n) ⊎ (n ≤ m)
inside_or_past m n = grind arith

same_or_less : (m n : ℕ) → m ≤ n → (m ≡ n) ⊎ (m < n)
same_or_less m n h = grind arith

module _ (s : List ℕ) (p : ℕ) where
  abbrev pub first : ℕ
  first = get_or s p 0

  abbrev pub second : ℕ
  second = get_or s (p + 1) 0

  abbrev pub third : ℕ
  third = get_or s (p + 2) 0

  -- a byte that is not 0 is within the text
  there : (q x : ℕ) → get_or s q 0 ≡ x → 0 < x → q < length s
  there q x e some = elim (inside_or_past q (length s)) [
    | inl inside ↦ inside
    | inr past ↦ absurd (omega (arith, get_or_past s q 0 past, e, some))
  ]

  from_byte : (q x : ℕ) → get_or s q 0 ≡ x → 0 < x → drop q s ≡ x ∷ drop (q + 1) s
  from_byte q x e some = drop_more s q 0 (there q x e some) ∙ ap (λ y. y ∷ drop (q + 1) s) e

  occurs_2 : (x y : ℕ) → first ≡ x → second ≡ y → 0 < x → 0 < y → Occurs s p (x ∷ y ∷ [])
  occurs_2 x y e f l m = Occurs-from_drop s p (x ∷ y ∷ []) (drop (p + 1 + 1) s) (from_byte p x e l ∙ ap (λ t. x ∷ t) (from_byte (p + 1) y f m))

  occurs_3 : (x y z : ℕ) → first ≡ x → second ≡ y → third ≡ z → 0 < x → 0 < y → 0 < z → Occurs s p (x ∷ y ∷ z ∷ [])
  occurs_3 x y z e f g l m n =
      let apart : p + 1 + 1 ≡ p + 2 = omega arith in
      Occurs-from_drop s p (x ∷ y ∷ z ∷ []) (drop (p + 1 + 1 + 1) s)
      (from_byte p x e l ∙ ap (λ t. x ∷ t) (from_byte (p + 1) y f m) ∙ ap (λ t. x ∷ y ∷ t) (from_byte (p + 1 + 1) z (ap (λ q. get_or s q 0) apart ∙ g) n))

  -- the bytes of a delimiter that occurs
  reads_first : (i : ℕ) → i < 12 → Occurs s p (text i) → get_or (text i) 0 0 ≡ first
  reads_first i inside o = elim (two_or_three i inside) [
    | inl two ↦ occurs_reads s p (text i) 0 o (omega (arith, two)) ∙ ap (λ q. get_or s q 0) (add-zero p)
    | inr three ↦ occurs_reads s p (text i) 0 o (omega (arith, three)) ∙ ap (λ q. get_or s q 0) (add-zero p)
  ]

  reads_second : (i : ℕ) → i < 12 → Occurs s p (text i) → get_or (text i) 1 0 ≡ second
  reads_second i inside o = elim (two_or_three i inside) [
    | inl two ↦ occurs_reads s p (text i) 1 o (omega (arith, two))
    | inr three ↦ occurs_reads s p (text i) 1 o (omega (arith, three))
  ]

  reads_third : (i : ℕ) → Occurs s p (text i) → Third (text i) third
  reads_third i o = λ more. occurs_reads s p (text i) 2 o more

  none_told : best_of first second third ≡ None → NoneAt default_delimiters s p
  none_told none i inside o =
      told i inside third (reads_third i o)
      (ap (λ x. best_of x (get_or (text i) 1 0) third) (reads_first i inside o) ∙ ap (λ x. best_of first x third) (reads_second i inside o) ∙ none)

  -- two delimiters of one length that occur are one
  one_of_length : (i j : ℕ) → i < 12 → j < 12 → length (text i) ≡ length (text j) → Occurs s p (text i) → Occurs s p (text j) → i ≡ j
  one_of_length i j l m size o q =
      let same : text i ≡ text j = o ∙ ap (λ n. take n (drop p s)) size ∙ sym q in
      sym (place_of i l) ∙ ap place same ∙ place_of j m

  -- one than which none is longer is the best
  longest_is_best : (i : ℕ) → i < 12 → Occurs s p (text i) → ((j : ℕ) → j < 12 → Occurs s p (text j) → length (text j) ≤ length (text i)) → IsBest default_delimiters s p i
  longest_is_best i inside o longest = record {
    in_range = inside;
    occurs = o;
    longest = longest;
    earliest = λ j before q.
        let below : j < 12 = omega (arith, before, inside) in
        elim (same_or_less (length (text j)) (length (text i)) (longest j below q)) [
          | inl same ↦ absurd (omega (arith, one_of_length j i below inside same q o, before))
          | inr less ↦ less
        ];
  }

  three_is_best : (i : ℕ) → i < 12 → length (text i) ≡ 3 → Occurs s p (text i) → IsBest default_delimiters s p i
  three_is_best i inside size o = longest_is_best i inside o (λ j below q. elim (two_or_three j below) [
    | inl two ↦ omega (arith, two, size)
    | inr three ↦ omega (arith, three, size)
  ])

  -- no hyphen makes the delimiter longer
  abbrev NoHyphen : Type 0
  NoHyphen = (first ≡ 45 → ⊥) × (first ≡ 123 → third ≡ 45 → ⊥)

  not_longer : NoHyphen → (j : ℕ) → j < 12 → Occurs s p (text j) → length (text j) ≤ 2
  not_longer bare j below q = elim (has_hyphen j below) [
    | inl two ↦ omega (arith, two)
    | inr (inl leads) ↦ absurd (bare.0 (sym (reads_first j below q) ∙ leads))
    | inr (inr ends) ↦ elim (two_or_three j below) [
      | inl two ↦ omega (arith, two)
      | inr three ↦ absurd (bare.1 (sym (reads_first j below q) ∙ ends.0) (sym (reads_third j q (omega (arith, three))) ∙ ends.1))
    ]
  ]

  two_is_best : (i : ℕ) → i < 12 → length (text i) ≡ 2 → NoHyphen → Occurs s p (text i) → IsBest default_delimiters s p i
  two_is_best i inside size bare o = longest_is_best i inside o (λ j below q. omega (arith, not_longer bare j below q, size))

  -- a delimiter of a kind and a length is the best, and lies in the text
  pub record Is (told : Delimiter × ℕ) : Type 0 where
    pub best : IsBestDelimiter default_delimiters s told.0 p (p + told.1)
    pub span : IsUtf8 s → LiesIn s (record { m = p; n = p + told.1 })

  is_best : (i n : ℕ) → i < 12 → length (text i) ≡ n → 0 < n → Occurs s p (text i) → IsBest default_delimiters s p i → Is (kind_at default_delimiters i, n)
  is_best i n inside size some o best = record {
    best = record { index = i; best = best; of_kind = refl; to = ap (λ x. p + x) (sym size) };
    span = λ utf8. subst (λ x. LiesIn s (record { m = p; n = p + x })) size (occurs_lies_in s p (text i) (omega (arith, size, some)) o utf8 (default_utf8 i inside));
  }

  three_is : (i x y z : ℕ) → i < 12 → x ∷ y ∷ z ∷ [] ≡ text i → first ≡ x → second ≡ y → third ≡ z → 0 < x → 0 < y → 0 < z → Is (kind_at default_delimiters i, 3)
  three_is i x y z inside is e f g l m n =
      let o : Occurs s p (text i) = subst (λ d. Occurs s p d) is (occurs_3 x y z e f g l m n) in
      let size : length (text i) ≡ 3 = sym (ap length is) in
      is_best i 3 inside size (lit< tt) o (three_is_best i inside size o)

  two_is : (i x y : ℕ) → i < 12 → x ∷ y ∷ [] ≡ text i → first ≡ x → second ≡ y → 0 < x → 0 < y → NoHyphen → Is (kind_at default_delimiters i, 2)
  two_is i x y inside is e f l m bare =
      let o : Occurs s p (text i) = subst (λ d. Occurs s p d) is (occurs_2 x y e f l m) in
      let size : length (text i) ≡ 2 = sym (ap length is) in
      is_best i 2 inside size (lit< tt) o (two_is_best i inside size bare o)

  abbrev Right : Option (Delimiter × ℕ) → Type 0
  Right found = IfSome found Is

  apart : (m n : ℕ) → (m == n) ≡ false → m ≡ n → ⊥
  apart m n h e = grind (arith, h, e)

  begun : (i j y : ℕ) → i < 12 → j < 12 → 123 ∷ y ∷ [] ≡ text i → 123 ∷ y ∷ 45 ∷ [] ≡ text j → 0 < y → first ≡ 123 → second ≡ y
      → (hyphen : Bool) → (third == 45) ≡ hyphen → Is (hyphened hyphen (kind_at default_delimiters i) (kind_at default_delimiters j))
  begun i j y l m plain trimming some e f true h = three_is j 123 y 45 m trimming e f (same_number third 45 h) (lit< tt) some (lit< tt)
  begun i j y l m plain trimming some e f false h = two_is i 123 y l plain e f (lit< tt) some ((λ k. absurd (omega (arith, e, k))), (λ _ k. apart third 45 h k))

  begins : first ≡ 123 → Right (begin_with second (third == 45))
  begins e =
      by_case Right (second == 123) _ _ (λ h. begun 0 2 123 (lit< tt) (lit< tt) refl refl (lit< tt) e (same_number second 123 h) (third == 45) refl) (λ _.
      by_case Right (second == 37) _ _ (λ h. begun 4 6 37 (lit< tt) (lit< tt) refl refl (lit< tt) e (same_number second 37 h) (third == 45) refl) (λ _.
      by_case Right (second == 35) _ _ (λ h. begun 8 10 35 (lit< tt) (lit< tt) refl refl (lit< tt) e (same_number second 35 h) (third == 45) refl) (λ _. tt)))

  ends_trimming : first ≡ 45 → third ≡ 125 → Right (end_with second true)
  ends_trimming e g =
      by_case Right (second == 125) _ _ (λ h. three_is 3 45 125 125 (lit< tt) refl e (same_number second 125 h) g (lit< tt) (lit< tt) (lit< tt)) (λ _.
      by_case Right (second == 37) _ _ (λ h. three_is 7 45 37 125 (lit< tt) refl e (same_number second 37 h) g (lit< tt) (lit< tt) (lit< tt)) (λ _.
      by_case Right (second == 35) _ _ (λ h. three_is 11 45 35 125 (lit< tt) refl e (same_number second 35 h) g (lit< tt) (lit< tt) (lit< tt)) (λ _. tt)))

  ends : NoHyphen → second ≡ 125 → Right (end_with first false)
  ends bare f =
      by_case Right (first == 125) _ _ (λ h. two_is 1 125 125 (lit< tt) refl (same_number first 125 h) f (lit< tt) (lit< tt) bare) (λ _.
      by_case Right (first == 37) _ _ (λ h. two_is 5 37 125 (lit< tt) refl (same_number first 37 h) f (lit< tt) (lit< tt) bare) (λ _.
      by_case Right (first == 35) _ _ (λ h. two_is 9 35 125 (lit< tt) refl (same_number first 35 h) f (lit< tt) (lit< tt) bare) (λ _. tt)))

  right : Right (best_of first second third)
  right =
      by_case Right (first == 123) _ _ (λ h. begins (same_number first 123 h)) (λ h.
      by_case Right (first == 45) _ _
      (λ k. by_case Right (third == 125) _ _ (λ l. ends_trimming (same_number first 45 k) (same_number third 125 l)) (λ _. tt))
      (λ k. by_case Right (second == 125) _ _ (λ l. ends ((λ e. apart first 45 k e), (λ e _. apart first 123 h e)) (same_number second 125 l)) (λ _. tt)))

  -- what three bytes of the text tell
  module _ (bytes : List ℕ) (same : bytes ≡ s) (x y z : ℕ) (a : x ≡ get_or bytes p 0) (b : y ≡ get_or bytes (p + 1) 0) (c : z ≡ get_or bytes (p + 2) 0) (found : Option (Delimiter × ℕ)) (told : found ≡ best_of x y z) where
    told_here : found ≡ best_of first second third
    told_here =
        told
        ∙ ap (λ t. best_of t y z) (a ∙ ap (λ t. get_or t p 0) same)
        ∙ ap (λ t. best_of first t z) (b ∙ ap (λ t. get_or t (p + 1) 0) same)
        ∙ ap (λ t. best_of first second t) (c ∙ ap (λ t. get_or t (p + 2) 0) same)

    pub best_told : IfSome found Is
    best_told = subst Right (sym told_here) right

    pub none_there : found ≡ None → NoneAt default_delimiters s p
    none_there none = none_told (sym told_here ∙ none)
