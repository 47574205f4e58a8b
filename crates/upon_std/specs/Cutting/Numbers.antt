-- What the functions of integers make of values.
use Rattle.std.specs.Prelude.{ℕ, ℤ, zero, suc, pos, negsuc, ◌+ℤ◌, ◌-ℤ◌, ◌&&◌, ◌++◌, List, [], ◌∷◌, Result, Ok, Err, String, string_bytes, int_le, codes, if◌then◌else◌}
use Rattle.std.specs.declared.alloc.Global.{Global}
use Rattle.upon_functions.specs.Integers.{i64_range}
use Rattle.upon_types.specs.Val.{Val, int_val, kind_word}

-- an integer, or 0 where it is below
abbrev pub from_zero : ℤ → ℕ
from_zero (pos n) = n
from_zero (negsuc n) = 0

-- a number of integers, one after the other from the first on
abbrev pub integers_from : ℤ → ℕ → List Val
integers_from first zero = []
integers_from first (suc n) = int_val first ∷ integers_from (first +ℤ pos 1) n

-- how many integers there are from one up to but not another
abbrev pub range_count : ℤ → ℤ → ℕ
range_count from to = from_zero (to -ℤ from)

-- the most items that `range` makes
abbrev pub most_items : ℕ
most_items = 1000000

-- what is made of a sum, or the refusal of one that 64 bits do not hold
abbrev pub if_held : {A : Type 0} → ℤ → Result A (List ℕ) → Result A (List ℕ)
if_held z made =
    if int_le i64_range.least z && int_le z i64_range.greatest then made else Err (codes "integer overflow")

-- the sum of integers, on top of what stands to their left, or the text of the refusal: of the first sum that 64 bits
-- do not hold, or of the first value that is no integer, whichever comes first
abbrev pub summed : ℤ → List Val → Result ℤ (List ℕ)
summed total [] = Ok total
summed total ((int_val z) ∷ vs) = if_held (total +ℤ z) (summed (total +ℤ z) vs)
summed total (v ∷ vs) = Err (codes "cannot add " ++ kind_word v)

-- the result of code, with the text of its refusal
abbrev pub said : {A : Type 0} → Result A (String Global) → Result A (List ℕ)
said (Ok a) = Ok a
said (Err text) = Err (string_bytes text)
