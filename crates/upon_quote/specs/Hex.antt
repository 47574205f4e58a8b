-- Hexadecimal digits, as escapes have them.
use Rattle.std.specs.Prelude.{ℕ, suc, zero, ◌+◌, ◌*◌, ◌/◌, ◌%◌, List, [], ◌∷◌, ◌++◌, Option, Some, None, if◌then◌else◌, nat_lt}
use Rattle.std.specs.Char.{digit_char, digit_value}

-- the last two digits of a number
abbrev pub two_digits : ℕ → List ℕ
two_digits n = digit_char (n / 16 % 16) ∷ digit_char (n % 16) ∷ []

-- its last four digits
abbrev pub four_digits : ℕ → List ℕ
four_digits n = two_digits (n / 256) ++ two_digits n

-- a number that goes on with so many digits, the first characters of a text; none, if other characters are among them
abbrev pub number_from : ℕ → ℕ → List ℕ → Option ℕ
number_from n zero cs = Some n
number_from n (suc more) [] = None
number_from n (suc more) (c ∷ cs) =
    if nat_lt (digit_value c) 16 then number_from (n * 16 + digit_value c) more cs else None

-- the number that the first characters of a text are, so many digits
abbrev pub number_of : ℕ → List ℕ → Option ℕ
number_of count cs = number_from 0 count cs
