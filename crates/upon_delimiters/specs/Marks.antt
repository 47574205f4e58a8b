-- Marks of the first two bytes of delimiters.
use Rattle.std.specs.Prelude.{◌≡◌, ℕ, ◌<◌, ◌%◌, List, length, slice_index, slice_index_or}
use Rattle.std.specs.Int.{bit_at}
use Rattle.upon_language_spec.specs.Search.{DelimiterText, text_at}
use Rattle.upon_delimiters.specs.Begins.{MayBeginEach}
use Rattle.upon_delimiters.specs.declared.marks.Marks.{Marks}

-- a table has a bit for a byte
abbrev pub HasMark : List ℕ → ℕ → ℕ → Type 0
HasMark table byte bit = bit_at (slice_index_or table byte 0) bit ≡ 1

-- a byte may be the second of a text: it is, or the text has none
abbrev pub MayBeSecond : ℕ → List ℕ → Type 0
MayBeSecond byte text = 1 < length text → slice_index text 1 ≡ byte

-- the first byte of a text is marked with a bit, and each byte that may be its second
pub record MarksText (marks : Marks) (bit : ℕ) (text : List ℕ) : Type 0 where
  pub first : HasMark marks.first (slice_index text 0) bit
  pub second : (b : ℕ) → b < 256 → MayBeSecond b text → HasMark marks.second b bit

-- each delimiter is marked with the bit of its index, and begins as is known
pub record MarksEach (marks : Marks) (delimiters : List DelimiterText) : Type 0 where
  pub texts : (i : ℕ) → i < length delimiters → MarksText marks (i % 16) (text_at delimiters i)
  pub begins : MayBeginEach marks.begins delimiters
