-- The delimiters that a searcher looks for.
use Rattle.std.specs.Prelude.{ℕ, List, Option, Some, None}
use Rattle.upon_types.specs.declared.types.Delimiter.{Delimiter}
use Rattle.upon_language_spec.specs.Search.{DelimiterText, NoneAt, IsBestDelimiter}
use Rattle.upon_delimiters.specs.Syntax.{syntax_delimiters}
use Rattle.upon_delimiters.specs.declared.search.Searcher.{Searcher}

-- those of its syntax, in the order of the list
abbrev pub searcher_delimiters : Searcher → List DelimiterText
searcher_delimiters searcher = syntax_delimiters searcher.syntax

-- the best delimiter at an offset is of this kind, or none is there
abbrev pub IsNextDelimiter : List DelimiterText → List ℕ → ℕ → Option Delimiter → Type 0
IsNextDelimiter delimiters s p None = NoneAt delimiters s p
IsNextDelimiter delimiters s p (Some kind) = (n : ℕ) × IsBestDelimiter delimiters s kind p n
