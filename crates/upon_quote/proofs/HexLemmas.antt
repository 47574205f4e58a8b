-- Numbers are read again from their hexadecimal digits.
use Rattle.std.proofs.Common.{◌≡◌, ℕ, suc, ◌+◌, ◌*◌, ◌/◌, ◌%◌, ◌<◌, List, [], ◌∷◌, ◌++◌, Some, nat_lt, true, refl, ap, ◌∙◌, arith}
use Rattle.std.proofs.lemmas.Bool.{lt-ltb}
use Rattle.std.proofs.lemmas.Str.{digit_value-digit_char}
use Rattle.std.proofs.lemmas.Bool.Decides.{nat_tests}
use Rattle.std.specs.Char.{digit_char, digit_value, is_ascii}
use Rattle.std.specs.List.{list_all}
use Rattle.upon_quote.specs.Hex.{two_digits, four_digits, number_from, number_of}

-- one digit more
digit_read : (n more d : ℕ) (cs : List ℕ) → d < 16 → number_from n (suc more) (digit_char d ∷ cs) ≡ number_from (n * 16 + d) more cs
digit_read n more d cs h =
    let value : digit_value (digit_char d) ≡ d = digit_value-digit_char d (omega arith) in
    rw value (rw (lt-ltb d 16 h) refl)

pub number_of_two : (c : ℕ) (rest : List ℕ) → c < 256 → number_of 2 (two_digits c ++ rest) ≡ Some c
number_of_two c rest h =
    let a = c / 16 % 16 in
    let b = c % 16 in
    digit_read 0 1 a (digit_char b ∷ rest) (omega arith)
    ∙ (digit_read (0 * 16 + a) 0 b rest (omega arith)
    ∙ ap (λ n. Some n) (omega arith))

pub number_of_four : (c : ℕ) (rest : List ℕ) → c < 65536 → number_of 4 (four_digits c ++ rest) ≡ Some c
number_of_four c rest h =
    let a = c / 256 / 16 % 16 in
    let b = c / 256 % 16 in
    let d = c / 16 % 16 in
    let e = c % 16 in
    digit_read 0 3 a (digit_char b ∷ two_digits c ++ rest) (omega arith)
    ∙ (digit_read (0 * 16 + a) 2 b (two_digits c ++ rest) (omega arith)
    ∙ (digit_read ((0 * 16 + a) * 16 + b) 1 d (digit_char e ∷ rest) (omega arith)
    ∙ (digit_read (((0 * 16 + a) * 16 + b) * 16 + d) 0 e rest (omega arith)
    ∙ ap (λ n. Some n) (omega arith))))

-- digits are ASCII
digit_ascii : (d : ℕ) → d < 16 → nat_lt (digit_char d) 128 ≡ true
digit_ascii d h = grind (arith, nat_tests)

pub two_ascii : (c : ℕ) (rest : List ℕ) → list_all is_ascii rest ≡ true → list_all is_ascii (two_digits c ++ rest) ≡ true
two_ascii c rest h = rw (digit_ascii (c / 16 % 16) (omega arith)) (rw (digit_ascii (c % 16) (omega arith)) h)

pub four_ascii : (c : ℕ) → list_all is_ascii (four_digits c) ≡ true
four_ascii c = two_ascii (c / 256) (two_digits c) (two_ascii c [] refl)
