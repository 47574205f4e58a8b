-- The best delimiter among the first of a list.
use Rattle.std.specs.Prelude.{ℕ, List, Option, MatchOption}
use Rattle.upon_language_spec.specs.Search.{DelimiterText, NoneBelow, IsBestBelow}

-- the index of the best of the first n that occur in s at p, or none if none of them occurs there
abbrev pub BestBelow : ℕ → List DelimiterText → List ℕ → ℕ → Option ℕ → Type 0
BestBelow n delimiters s p best = MatchOption best (NoneBelow n delimiters s p) (IsBestBelow n delimiters s p)
