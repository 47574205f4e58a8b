-- Spans in a text.
use Rattle.std.specs.Prelude.{ℕ, ◌-◌, ◌≤◌, List, take, drop, min, max}
use Rattle.std.specs.Str.{IsCharBoundary}
use Rattle.upon_types.specs.declared.types.Span.{Span}

-- the span lies in the text, and both its ends are between characters
pub record LiesIn (s : List ℕ) (span : Span) : Type 0 where
  pub ordered : span.m ≤ span.n
  pub start : IsCharBoundary s span.m
  pub end : IsCharBoundary s span.n

-- what is at the span
abbrev pub slice : List ℕ → Span → List ℕ
slice s span = take (span.n - span.m) (drop span.m s)

-- the least span that covers both
abbrev pub combine : Span → Span → Span
combine a b = record { m = min a.m b.m; n = max a.n b.n }
