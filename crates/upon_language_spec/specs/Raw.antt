-- Raw parts of a text.
use Rattle.std.specs.Prelude.{◌≡◌, ◌⊎◌, ℕ, ◌<◌, ◌≤◌, List, length}
use Rattle.upon_types.specs.declared.types.Delimiter.{Delimiter}
use Rattle.upon_language_spec.specs.Search.{DelimiterText, NoneFrom, IsBestDelimiter}

-- a raw part: it is not empty, no delimiter is at any of its offsets, and the end of the text or a delimiter follows
pub record IsRaw (delimiters : List DelimiterText) (s : List ℕ) (m n : ℕ) : Type 0 where
  pub some : m < n
  pub within : n ≤ length s
  pub bare : NoneFrom delimiters s m n
  pub ends : (n ≡ length s) ⊎ ((kind : Delimiter) × (to : ℕ) × IsBestDelimiter delimiters s kind n to)
