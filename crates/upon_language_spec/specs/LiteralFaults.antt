-- What is wrong with a number, an index or a string that denotes nothing.
use Rattle.std.specs.Prelude.{ℕ, ◌+◌, ◌-◌, ◌*◌, ◌^◌, ◌==◌, ◌||◌, nat_lt, List, [], ◌∷◌, length, Bool, true, false, Option, Some, None, if◌then◌else◌, encode_utf8}
use Rattle.std.specs.Char.{digit_value}
use Rattle.std.specs.Fmt.{decimal}
use Rattle.std.specs.List.{list_any}
use Rattle.upon_language_spec.specs.Inside.{Piece, plain, escape}
use Rattle.upon_language_spec.specs.Literal.{base_and_digits, sum_of_digits, escape_value}
use Rattle.upon_types.specs.Bytes.{plus, hyphen, dot, underscore}

-- what is wrong with a number: the digit at an offset, or its size
pub data NumberFault : Type 0 where
  bad_digit : ℕ → NumberFault
  too_large : NumberFault

-- the greatest magnitude that an integer has with this sign
abbrev pub magnitude_limit : Bool → ℕ
magnitude_limit true = 2 ^ 63
magnitude_limit false = 2 ^ 63 - 1

-- the digits are tested from the left, and the first that fails decides: one that is none of the base, or one with
-- which the value leaves the range
abbrev pub digit_fault : ℕ → ℕ → ℕ → ℕ → List ℕ → Option NumberFault
digit_fault base limit value offset [] = None
digit_fault base limit value offset (b ∷ bs) = if b == underscore then digit_fault base limit value (offset + 1) bs
    else (if nat_lt (digit_value b) base
    then (if nat_lt limit (value * base + digit_value b) then Some too_large else digit_fault base limit
    (value * base + digit_value b) (offset + 1) bs)
    else Some (bad_digit offset))

-- what is wrong with a number's text, if something is
abbrev pub number_fault : Bool → List ℕ → Option NumberFault
number_fault minus text = digit_fault (base_and_digits text).0 (magnitude_limit minus) 0
    (length text - length (base_and_digits text).1) (base_and_digits text).1

-- a dot or a sign inside: it would be a float
abbrev pub is_float : List ℕ → Bool
is_float text = list_any (λ b. (b == dot) || (b == plus) || (b == hyphen)) text

-- a number's base in decimal
abbrev pub base_text : List ℕ → List ℕ
base_text text = decimal (base_and_digits text).0

-- the value of an index's digits
abbrev pub index_value : Option (List ℕ) → ℕ
index_value None = 0
index_value (Some ds) = sum_of_digits 10 ds

-- the offset and the length of the character after the first backslash that makes no escape
abbrev pub escape_fault : ℕ → List Piece → Option (ℕ × ℕ)
escape_fault offset [] = None
escape_fault offset (plain c ∷ pieces) = escape_fault (offset + length (encode_utf8 c)) pieces
escape_fault offset (escape c ∷ pieces) = elim
    (escape_value c) [
      | None ↦ Some (offset + 1, length (encode_utf8 c))
      | Some text ↦ escape_fault
          (offset + 1 + length (encode_utf8 c)) pieces
    ]
