-- Tests that compute, and what each shows of the spans of a text.
use Rattle.std.proofs.Common.{◌≡◌, ℕ, zero, suc, ◌<◌, ◌≤◌, ◌==◌, ◌&&◌, ◌||◌, not, nat_lt, nat_le, List, length, take, drop, Bool, true, false, refl, subst, arith}
use Rattle.std.specs.Str.{bytes_eq}
use Rattle.std.proofs.lemmas.Slice.Eq.{bytes_eq-Decides}
use Rattle.upon_language_spec.specs.Search.{DelimiterText, text_at, Occurs, NoneAt, IsBest}

pub same_number : (a b : ℕ) → (a == b) ≡ true → a ≡ b
same_number a b h = grind (arith, h)

pub left_true : (a b : Bool) → (a && b) ≡ true → a ≡ true
left_true true b h = refl
left_true false b h = absurd cc

pub right_true : (a b : Bool) → (a && b) ≡ true → b ≡ true
right_true true b h = h
right_true false b h = absurd cc

not_true : (a : Bool) → not a ≡ true → a ≡ true → ⊥
not_true true h k = cc
not_true false h k = cc

-- every number below n passes
abbrev pub each_below : ℕ → (ℕ → Bool) → Bool
each_below zero test = true
each_below (suc n) test = test n && each_below n test

pub each_below_passes : (n : ℕ) (test : ℕ → Bool) → each_below n test ≡ true → (i : ℕ) → i < n → test i ≡ true
each_below_passes zero test h i l = absurd (omega arith)
each_below_passes (suc n) test h i l = elim (nat_lt i n) as (λ b. nat_lt i n ≡ b → test i ≡ true) [
  | true ↦ λ e. each_below_passes n test (right_true _ _ h) i (grind (arith, e))
  | false ↦ λ e. let same : n ≡ i = grind (arith, e) in subst (λ k. test k ≡ true) same (left_true _ _ h)
] refl

-- whether the text d occurs in s at p
abbrev pub occurs_test : List ℕ → ℕ → List ℕ → Bool
occurs_test s p d = bytes_eq d (take (length d) (drop p s))

pub occurs_tested : (s : List ℕ) (p : ℕ) (d : List ℕ) → occurs_test s p d ≡ true → Occurs s p d
occurs_tested s p d h = (bytes_eq-Decides d (take (length d) (drop p s))).0 h

pub occurs_tests : (s : List ℕ) (p : ℕ) (d : List ℕ) → Occurs s p d → occurs_test s p d ≡ true
occurs_tests s p d h = (bytes_eq-Decides d (take (length d) (drop p s))).1 h

-- whether no delimiter is at p
abbrev pub none_test : List DelimiterText → List ℕ → ℕ → Bool
none_test delimiters s p = each_below (length delimiters) (λ i. not (occurs_test s p (text_at delimiters i)))

pub none_tested : (delimiters : List DelimiterText) (s : List ℕ) (p : ℕ) → none_test delimiters s p ≡ true → NoneAt delimiters s p
none_tested delimiters s p h = λ i l o. not_true _ (each_below_passes (length delimiters) _ h i l) (occurs_tests s p (text_at delimiters i) o)

-- whether the i-th delimiter is the best at p
abbrev pub fits_under : List DelimiterText → List ℕ → ℕ → ℕ → ℕ → Bool
fits_under delimiters s p most j = not (occurs_test s p (text_at delimiters j)) || nat_le (length (text_at delimiters j)) most

abbrev pub is_shorter : List DelimiterText → List ℕ → ℕ → ℕ → ℕ → Bool
is_shorter delimiters s p most j = not (occurs_test s p (text_at delimiters j)) || nat_lt (length (text_at delimiters j)) most

abbrev pub best_test : List DelimiterText → List ℕ → ℕ → ℕ → Bool
best_test delimiters s p i = nat_lt i (length delimiters) && (occurs_test s p (text_at delimiters i)
    && (each_below (length delimiters) (fits_under delimiters s p (length (text_at delimiters i)))
    && each_below i (is_shorter delimiters s p (length (text_at delimiters i)))))

or_second : (a b : Bool) → (not a || b) ≡ true → a ≡ true → b ≡ true
or_second true b h k = h
or_second false b h k = absurd cc

module _ (delimiters : List DelimiterText) (s : List ℕ) (p i : ℕ) where
  no_longer : each_below (length delimiters) (fits_under delimiters s p (length (text_at delimiters i))) ≡ true → (j : ℕ) → j < length delimiters → Occurs s p (text_at delimiters j) → length (text_at delimiters j) ≤ length (text_at delimiters i)
  no_longer h j l o =
      let b : nat_le (length (text_at delimiters j)) (length (text_at delimiters i)) ≡ true = or_second (occurs_test s p (text_at delimiters j)) _ (each_below_passes (length delimiters) (fits_under delimiters s p (length (text_at delimiters i))) h j l) (occurs_tests s p (text_at delimiters j) o) in
      grind (arith, b)

  shorter_before : each_below i (is_shorter delimiters s p (length (text_at delimiters i))) ≡ true → (j : ℕ) → j < i → Occurs s p (text_at delimiters j) → length (text_at delimiters j) < length (text_at delimiters i)
  shorter_before h j l o =
      let b : nat_lt (length (text_at delimiters j)) (length (text_at delimiters i)) ≡ true = or_second (occurs_test s p (text_at delimiters j)) _ (each_below_passes i (is_shorter delimiters s p (length (text_at delimiters i))) h j l) (occurs_tests s p (text_at delimiters j) o) in
      grind (arith, b)

  pub best_tested : best_test delimiters s p i ≡ true → IsBest delimiters s p i
  best_tested h =
      let inside : nat_lt i (length delimiters) ≡ true = left_true _ _ h in
      let others = right_true _ _ h in
      let both = right_true _ _ others in
      record {
        in_range = grind (arith, inside);
        occurs = occurs_tested s p (text_at delimiters i) (left_true _ _ others);
        longest = no_longer (left_true _ _ both);
        earliest = shorter_before (right_true _ _ both);
      }
