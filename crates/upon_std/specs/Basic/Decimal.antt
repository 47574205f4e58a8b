-- Integers in decimal, with a point.
use Rattle.std.specs.Prelude.{ℕ, ℤ, zero, suc, ◌+◌, ◌/◌, ◌%◌, ◌^◌, List, [], ◌∷◌, ◌++◌, unsigned_abs}
use Rattle.std.specs.Fmt.{decimal, sign_text}
use Rattle.std.specs.Int.{is_negative}
use Rattle.upon_types.specs.Bytes.{dot, digit_zero}

-- the digits of a number at its last places, the highest first
abbrev pub last_digits : ℕ → ℕ → List ℕ
last_digits zero n = []
last_digits (suc k) n = (digit_zero + n / 10 ^ k % 10) ∷ last_digits k n

-- a point and the digits after it, if there are any
abbrev pub fraction : ℕ → ℕ → List ℕ
fraction zero n = []
fraction (suc k) n = dot ∷ last_digits (suc k) n

-- an integer of units in decimal, where a number of its last places stand after the point
abbrev pub decimal_text : ℤ → ℕ → List ℕ
decimal_text z places = let size = unsigned_abs z in
    sign_text (is_negative z) ++ decimal (size / 10 ^ places) ++ fraction places size

-- the most places that a decimal number may have
abbrev pub most_places : ℕ
most_places = 18
