-- The bytes of a set.
use Rattle.std.specs.Prelude.{◌≡◌, ℕ, ◌<◌, slice_index_or}
use Rattle.upon_delimiters.specs.declared.byte_set.ByteSet.{ByteSet}

-- a byte is at one of the places that are taken
pub record IsIn (set : ByteSet) (byte : ℕ) : Type 0 where
  pub place : ℕ
  pub inside : place < 6
  pub is_taken : place < set.count
  pub is_there : slice_index_or set.bytes place 0 ≡ byte
