-- What the text of a number, an index or a string denotes.
use Rattle.std.specs.Prelude.{◌≡◌, ℕ, zero, suc, ◌+◌, ◌*◌, ◌^◌, ◌<◌, ◌==◌, nat_lt, ℤ, pos, negsuc, List, [], ◌∷◌, ◌++◌, length, Bool, true, false, Option, Some, None, encode_utf8, if◌then◌else◌, FitsSigned}
use Rattle.std.specs.Int.{w64}
use Rattle.std.specs.Char.{digit_value}
use Rattle.std.specs.Option.{option_map}
use Rattle.upon_language_spec.specs.Inside.{Piece, plain, escape, IsQuoted}
use Rattle.upon_types.specs.Bytes.{tab, line_feed, carriage_return, quote, digit_zero, backslash, underscore, letter_b, letter_n, letter_o, letter_r, letter_t, letter_x}

-- the sum of the digits times the powers of the base
abbrev pub sum_of_digits : ℕ → List ℕ → ℕ
sum_of_digits base [] = 0
sum_of_digits base (d ∷ ds) = d * base ^ length ds + sum_of_digits base ds

-- a digit before other digits, if it is one of the base
abbrev pub digit_then : ℕ → ℕ → Option (List ℕ) → Option (List ℕ)
digit_then base d others = if nat_lt d base then option_map (λ ds. d ∷ ds) others else None

-- the digits of a base, underscores left out, if there are no other characters
abbrev pub digits_in : ℕ → List ℕ → Option (List ℕ)
digits_in base [] = Some []
digits_in base (b ∷ bs) =
    if b == underscore then digits_in base bs else digit_then base (digit_value b) (digits_in base bs)

-- a number's base and what is after its prefix: `0b`, `0o`, `0x`, else none
abbrev pub base_by : ℕ → List ℕ → ℕ × List ℕ
base_by b bs = if b == letter_b then (2, bs) else
    (if b == letter_o then (8, bs) else (if b == letter_x then (16, bs) else (10, digit_zero ∷ b ∷ bs)))

-- a number's base and what follows its prefix, if it begins with 0
abbrev pub base_after_zero : List ℕ → ℕ × List ℕ
base_after_zero [] = (10, digit_zero ∷ [])
base_after_zero (b ∷ bs) = base_by b bs

-- a number's base and what follows its prefix
abbrev pub base_and_digits : List ℕ → ℕ × List ℕ
base_and_digits [] = (10, [])
base_and_digits (b ∷ bs) = if b == digit_zero then base_after_zero bs else (10, b ∷ bs)

-- a magnitude, negative if the first argument is true
abbrev pub with_sign : Bool → ℕ → ℤ
with_sign false n = pos n
with_sign true zero = pos 0
with_sign true (suc n) = negsuc n

-- the number's text, after a minus if the first argument is true, denotes the integer
pub record IsInteger (minus : Bool) (text : List ℕ) (z : ℤ) : Type 0 where
  pub digits : List ℕ
  pub are_digits : digits_in (base_and_digits text).0 (base_and_digits text).1 ≡ Some digits
  pub value : z ≡ with_sign minus (sum_of_digits (base_and_digits text).0 digits)
  pub in_range : FitsSigned w64 z

-- the index's text denotes the number
pub record IsIndex (text : List ℕ) (i : ℕ) : Type 0 where
  pub digits : List ℕ
  pub are_digits : digits_in 10 text ≡ Some digits
  pub value : i ≡ sum_of_digits 10 digits
  pub in_range : i < 2 ^ 64

-- the character that an escape denotes: `\n`, `\r`, `\t`, `\\` and `\"`
abbrev pub escape_value : ℕ → Option (List ℕ)
escape_value c = if c == letter_n then Some (line_feed ∷ []) else
    (if c == letter_r then Some (carriage_return ∷ []) else (if c == letter_t then Some (tab ∷ [])
    else (if c == backslash then Some (backslash ∷ []) else (if c == quote then Some (quote ∷ []) else None))))

-- two texts one after the other, if there are both
abbrev pub join : Option (List ℕ) → Option (List ℕ) → Option (List ℕ)
join (Some a) (Some b) = Some (a ++ b)
join _ _ = None

-- the text of the pieces, each escape replaced, if each is one of the five
abbrev pub text_of_pieces : List Piece → Option (List ℕ)
text_of_pieces [] = Some []
text_of_pieces (plain c ∷ pieces) = join (Some (encode_utf8 c)) (text_of_pieces pieces)
text_of_pieces (escape c ∷ pieces) = join (escape_value c) (text_of_pieces pieces)

-- the string from m to n denotes the text
pub record IsText (s : List ℕ) (m n : ℕ) (text : List ℕ) : Type 0 where
  pub string : IsQuoted s m n
  pub value : text_of_pieces string.pieces ≡ Some text
