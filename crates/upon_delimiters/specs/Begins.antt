-- The bytes with which delimiters begin.
use Rattle.std.specs.Prelude.{◌≡◌, ℕ, ◌<◌, List, length, slice_index, Option, Some, None}
use Rattle.upon_language_spec.specs.Search.{DelimiterText, text_at}
use Rattle.upon_delimiters.specs.ByteSet.{IsIn}
use Rattle.upon_delimiters.specs.declared.begins.Begins.{Begins}

-- a text of one byte is among those that are alone; of a longer one, the first byte is among the first ones, and the
-- second among the second ones
pub record BeginsText (begins : Begins) (text : List ℕ) : Type 0 where
  pub alone : length text ≡ 1 → IsIn begins.alone (slice_index text 0)
  pub first : 1 < length text → IsIn begins.first (slice_index text 0)
  pub second : 1 < length text → IsIn begins.second (slice_index text 1)

-- each delimiter begins so
abbrev pub BeginEach : Begins → List DelimiterText → Type 0
BeginEach begins delimiters = (i : ℕ) → i < length delimiters → BeginsText begins (text_at delimiters i)

-- if it is known which bytes delimiters begin with, each delimiter begins with these
abbrev pub MayBeginEach : Option Begins → List DelimiterText → Type 0
MayBeginEach None delimiters = Unit {0}
MayBeginEach (Some begins) delimiters = BeginEach begins delimiters
