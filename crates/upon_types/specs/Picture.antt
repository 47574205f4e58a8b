-- The picture of a span in a source: the line in which it begins, and where in that line it is.
use Rattle.std.specs.Prelude.{ℕ, ◌+◌, max, Bool, false, ◌==◌, List, ◌++◌, take, drop, chars, count_by}
use Rattle.std.specs.List.{before_first, after_last}
use Rattle.unicode_width.specs.Width.{str_width}
use Rattle.upon_types.specs.Span.{slice}
use Rattle.upon_types.specs.declared.types.Span.{Span}
use Rattle.upon_types.specs.Bytes.{line_feed}

-- the number of the line, the column at which the span begins, how many columns are marked, and the line itself
pub record Picture : Type 0 where
  pub number : ℕ
  pub column : ℕ
  pub width : ℕ
  pub line : List ℕ

-- whether a byte is a line feed
abbrev pub is_line_feed : ℕ → Bool
is_line_feed b = b == line_feed

-- how many columns a text takes
abbrev pub columns : List ℕ → ℕ
columns text = str_width false (chars text)

-- how far the line goes before the span
abbrev pub line_before : List ℕ → List ℕ
line_before before = after_last is_line_feed before

-- Lines and columns count from 1. The line goes from line feed to line feed. At least one column is marked.
abbrev pub picture : List ℕ → Span → Picture
picture source span = record {
  number = 1 + count_by is_line_feed (take span.m source);
  column = 1 + columns (line_before (take span.m source));
  width = max 1 (columns (slice source span));
  line = line_before (take span.m source) ++ before_first is_line_feed (drop span.m source);
}
