-- Where the delimiters of a list are in a text, and which of them is the best at an offset.
use Rattle.std.specs.Prelude.{◌≡◌, ℕ, ◌+◌, ◌<◌, ◌≤◌, List, [], length, map, take, drop, slice_index_or}
use Rattle.upon_types.specs.declared.types.Span.{Span}
use Rattle.upon_types.specs.declared.types.Delimiter.{Delimiter}
use Rattle.upon_types.specs.declared.types.Delimiter.TheVariants.{BeginExpr}

-- a delimiter of a syntax: what it is for, and its text
pub record DelimiterText : Type 0 where
  pub kind : Delimiter
  pub text : List ℕ

-- the text of the delimiter at an index
abbrev pub text_at : List DelimiterText → ℕ → List ℕ
text_at delimiters i = slice_index_or (map (λ (p : DelimiterText). p.text) delimiters) i []

-- its kind
abbrev pub kind_at : List DelimiterText → ℕ → Delimiter
kind_at delimiters i = slice_index_or (map (λ (p : DelimiterText). p.kind) delimiters) i BeginExpr

-- no delimiter of the list has an empty text
abbrev pub HasTexts : List DelimiterText → Type 0
HasTexts delimiters = (i : ℕ) → i < length delimiters → 0 < length (text_at delimiters i)

-- the text d occurs in s at the offset p
abbrev pub Occurs : List ℕ → ℕ → List ℕ → Type 0
Occurs s p d = d ≡ take (length d) (drop p s)

-- of the first n delimiters none occurs in s at p
abbrev pub NoneBelow : ℕ → List DelimiterText → List ℕ → ℕ → Type 0
NoneBelow n delimiters s p = (i : ℕ) → i < n → Occurs s p (text_at delimiters i) → ⊥

-- no delimiter occurs in s at p
abbrev pub NoneAt : List DelimiterText → List ℕ → ℕ → Type 0
NoneAt delimiters s p = NoneBelow (length delimiters) delimiters s p

-- of the first n delimiters, the i-th has the longest text that occurs in s at p, and of equal texts it is the one
-- listed first
pub record IsBestBelow (n : ℕ) (delimiters : List DelimiterText) (s : List ℕ) (p i : ℕ) : Type 0 where
  pub in_range : i < n
  pub occurs : Occurs s p (text_at delimiters i)
  pub longest : (j : ℕ) → j < n → Occurs s p (text_at delimiters j) → length (text_at delimiters j) ≤ length
      (text_at delimiters i)
  pub earliest : (j : ℕ) → j < i → Occurs s p (text_at delimiters j) → length (text_at delimiters j) < length
      (text_at delimiters i)

-- the i-th delimiter is the best at p
abbrev pub IsBest : List DelimiterText → List ℕ → ℕ → ℕ → Type 0
IsBest delimiters s p i = IsBestBelow (length delimiters) delimiters s p i

-- the best delimiter at m is of this kind, and ends at n
pub record IsBestDelimiter (delimiters : List DelimiterText) (s : List ℕ) (kind : Delimiter) (m n : ℕ) : Type 0 where
  pub index : ℕ
  pub best : IsBest delimiters s m index
  pub of_kind : kind ≡ kind_at delimiters index
  pub to : n ≡ m + length (text_at delimiters index)

-- the least offset at or after `at` where a delimiter is, with the best one there
pub record IsFirst (delimiters : List DelimiterText) (s : List ℕ) (at : ℕ) (kind : Delimiter) (span : Span)
    : Type 0 where
  pub after : at ≤ span.m
  pub best : IsBestDelimiter delimiters s kind span.m span.n
  pub least : (q : ℕ) → at ≤ q → q < span.m → NoneAt delimiters s q

-- no delimiter is at any offset from m up to n
abbrev pub NoneFrom : List DelimiterText → List ℕ → ℕ → ℕ → Type 0
NoneFrom delimiters s m n = (q : ℕ) → m ≤ q → q < n → NoneAt delimiters s q
