-- Whether a text is cut into given tokens, as a test that computes.
use Rattle.std.proofs.Common.{◌≡◌, ◌⊎◌, inl, inr, ℕ, zero, suc, ◌+◌, ◌==◌, ◌&&◌, ◌||◌, nat_lt, nat_le, List, length, Bool, true, false, Option, Some, None, refl, subst, arith, if◌then◌else◌}
use Rattle.upon_types.specs.declared.types.Delimiter.{Delimiter}
use Rattle.upon_language_spec.specs.Search.{DelimiterText, text_at, kind_at, NoneFrom, IsBestDelimiter}
use Rattle.upon_language_spec.specs.Raw.{IsRaw}
use Rattle.upon_language_spec.proofs.Computation.Tests.{same_number, left_true, right_true, each_below, each_below_passes, none_test, none_tested, best_test, best_tested}

-- the number of the best delimiter at p
abbrev pub found_below : ℕ → (ℕ → Bool) → Option ℕ
found_below zero test = None
found_below (suc n) test = if test n then Some n else found_below n test

passes_found : (n : ℕ) (test : ℕ → Bool) (i : ℕ) → found_below n test ≡ Some i → test i ≡ true
passes_found zero test i h = absurd cc
passes_found (suc n) test i h = elim (test n) as (λ b. test n ≡ b → (if b then Some n else found_below n test) ≡ Some i → test i ≡ true) [
  | true ↦ λ e k. let same : n ≡ i = cc in subst (λ j. test j ≡ true) same e
  | false ↦ λ e k. passes_found n test i k
] refl h

abbrev pub best_at : List DelimiterText → List ℕ → ℕ → Option ℕ
best_at delimiters s p = found_below (length delimiters) (best_test delimiters s p)

-- whether the best delimiter at m passes a test on its kind, and ends at n
abbrev pub stands_by : (Delimiter → Bool) → List DelimiterText → ℕ → ℕ → Option ℕ → Bool
stands_by test delimiters m n None = false
stands_by test delimiters m n (Some i) = test (kind_at delimiters i) && (n == m + length (text_at delimiters i))

abbrev pub stands_test : (Delimiter → Bool) → List DelimiterText → List ℕ → ℕ → ℕ → Bool
stands_test test delimiters s m n = stands_by test delimiters m n (best_at delimiters s m)

pub stands_tested : (test : Delimiter → Bool) (delimiters : List DelimiterText) (s : List ℕ) (m n : ℕ) → stands_test test delimiters s m n ≡ true → (kind : Delimiter) × IsBestDelimiter delimiters s kind m n × (test kind ≡ true)
stands_tested test delimiters s m n h = elim (best_at delimiters s m) as (λ o. best_at delimiters s m ≡ o → stands_by test delimiters m n o ≡ true → (kind : Delimiter) × IsBestDelimiter delimiters s kind m n × (test kind ≡ true)) [
  | None ↦ λ e k. absurd cc
  | Some i ↦ λ e k. (kind_at delimiters i, record { index = i; best = best_tested delimiters s m i (passes_found (length delimiters) (best_test delimiters s m) i e); of_kind = refl; to = same_number _ _ (right_true _ _ k) }, left_true _ _ k)
] refl h

-- raw parts
abbrev pub none_from_test : List DelimiterText → List ℕ → ℕ → ℕ → Bool
none_from_test delimiters s m n = each_below n (λ q. nat_lt q m || none_test delimiters s q)

or_right : (a b : Bool) → (a || b) ≡ true → a ≡ false → b ≡ true
or_right true b h k = absurd cc
or_right false b h k = h

none_from_tested : (delimiters : List DelimiterText) (s : List ℕ) (m n : ℕ) → none_from_test delimiters s m n ≡ true → NoneFrom delimiters s m n
none_from_tested delimiters s m n h = λ q a l. let behind : nat_lt q m ≡ false = grind arith in none_tested delimiters s q (or_right _ _ (each_below_passes n (λ q. nat_lt q m || none_test delimiters s q) h q l) behind)

abbrev pub any_kind : Delimiter → Bool
any_kind kind = true

abbrev pub some_stands : Option ℕ → Bool
some_stands None = false
some_stands (Some i) = true

abbrev pub raw_test : List DelimiterText → List ℕ → ℕ → ℕ → Bool
raw_test delimiters s m n = nat_lt m n && (nat_le n (length s) && (none_from_test delimiters s m n && ((n == length s) || some_stands (best_at delimiters s n))))

raw_ends : (delimiters : List DelimiterText) (s : List ℕ) (n : ℕ) → ((n == length s) || some_stands (best_at delimiters s n)) ≡ true → (n ≡ length s) ⊎ ((kind : Delimiter) × (to : ℕ) × IsBestDelimiter delimiters s kind n to)
raw_ends delimiters s n h = elim (n == length s) as (λ b. (n == length s) ≡ b → (b || some_stands (best_at delimiters s n)) ≡ true → (n ≡ length s) ⊎ ((kind : Delimiter) × (to : ℕ) × IsBestDelimiter delimiters s kind n to)) [
  | true ↦ λ e k. inl (same_number _ _ e)
  | false ↦ λ e k. inr (some_ends k)
] refl h
  where
    some_ends : some_stands (best_at delimiters s n) ≡ true → (kind : Delimiter) × (to : ℕ) × IsBestDelimiter delimiters s kind n to
    some_ends k = elim (best_at delimiters s n) as (λ o. best_at delimiters s n ≡ o → some_stands o ≡ true → (kind : Delimiter) × (to : ℕ) × IsBestDelimiter delimiters s kind n to) [
      | None ↦ λ e j. absurd cc
      | Some i ↦ λ e j. (kind_at delimiters i, n + length (text_at delimiters i), record { index = i; best = best_tested delimiters s n i (passes_found (length delimiters) (best_test delimiters s n) i e); of_kind = refl; to = refl })
    ] refl k

pub raw_tested : (delimiters : List DelimiterText) (s : List ℕ) (m n : ℕ) → raw_test delimiters s m n ≡ true → IsRaw delimiters s m n
raw_tested delimiters s m n h =
    let some : nat_lt m n ≡ true = left_true _ _ h in
    let rest = right_true _ _ h in
    let within : nat_le n (length s) ≡ true = left_true _ _ rest in
    let others = right_true _ _ rest in
    record { some = grind (arith, some); within = grind (arith, within); bare = none_from_tested delimiters s m n (left_true _ _ others); ends = raw_ends delimiters s n (right_true _ _ others) }
