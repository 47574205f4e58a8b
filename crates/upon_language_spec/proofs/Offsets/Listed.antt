-- The best delimiter among the first of a list, when one more of the list is looked at.
use Rattle.std.proofs.Common.{ℕ, ◌+◌, ◌<◌, ◌≤◌, List, length, arith, below_more, Option, Some, None}
use Rattle.upon_language_spec.specs.Search.{DelimiterText, text_at, Occurs, NoneBelow, IsBestBelow}
use Rattle.upon_language_spec.specs.Longest.{BestBelow}

module _ (delimiters : List DelimiterText) (s : List ℕ) (p n : ℕ) where
  same_best : (i : ℕ) → IsBestBelow n delimiters s p i → (Occurs s p (text_at delimiters n) → length (text_at delimiters n) ≤ length (text_at delimiters i)) → IsBestBelow (n + 1) delimiters s p i
  same_best i h no_longer = record {
    in_range = omega (arith, h.in_range);
    occurs = h.occurs;
    longest = below_more (λ j. Occurs s p (text_at delimiters j) → length (text_at delimiters j) ≤ length (text_at delimiters i)) n h.longest no_longer;
    earliest = h.earliest;
  }

  -- the next one is not there
  pub passed_over : (best : Option ℕ) → BestBelow n delimiters s p best → (Occurs s p (text_at delimiters n) → ⊥) → BestBelow (n + 1) delimiters s p best
  passed_over None h differs = below_more _ _ h differs
  passed_over (Some i) h differs = same_best i h (λ o. absurd (differs o))

  -- the next one is not longer
  pub not_longer : (i : ℕ) → IsBestBelow n delimiters s p i → length (text_at delimiters n) ≤ length (text_at delimiters i) → IsBestBelow (n + 1) delimiters s p i
  not_longer i h le = same_best i h (λ _. le)

  -- the next one is the first that is there
  pub first_found : NoneBelow n delimiters s p → Occurs s p (text_at delimiters n) → IsBestBelow (n + 1) delimiters s p n
  first_found none o = record {
    in_range = omega arith;
    occurs = o;
    longest = below_more (λ j. Occurs s p (text_at delimiters j) → length (text_at delimiters j) ≤ length (text_at delimiters n)) n (λ j l q. absurd (none j l q)) (λ _. omega arith);
    earliest = λ j l q. absurd (none j l q);
  }

  -- the next one is longer
  pub longer_found : (i : ℕ) → IsBestBelow n delimiters s p i → length (text_at delimiters i) < length (text_at delimiters n) → Occurs s p (text_at delimiters n) → IsBestBelow (n + 1) delimiters s p n
  longer_found i h lt o = record {
    in_range = omega arith;
    occurs = o;
    longest = below_more (λ j. Occurs s p (text_at delimiters j) → length (text_at delimiters j) ≤ length (text_at delimiters n)) n (λ j l q. omega (arith, h.longest j l q)) (λ _. omega arith);
    earliest = λ j l q. omega (arith, h.longest j l q);
  }
