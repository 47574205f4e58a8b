-- Columns of characters, one after the other.
use Rattle.std.proofs.Common.{◌≡◌, ℕ, ◌+◌, ◌-◌, ◌<◌, ◌≤◌, Bool, true, false, List, ◌++◌, length, chars, encode_utf8, nat_le, ap, sym, ◌∙◌, arith}
use Rattle.std.proofs.lemmas.Bool.Decides.{nat_tests}
use Rattle.std.proofs.lemmas.Str.{chars_past_char}
use Rattle.std.specs.Str.{IsUtf8}
use Rattle.upon_std.specs.Encoding.Columns.{columns_of, width}
use Rattle.upon_std.proofs.EncodingLemmas.Characters.{no_chars}

-- the columns of a text are those of its first character and those of the others
pub columns_of_next : (bs rest : List ℕ) (c : ℕ) → IsUtf8 bs → bs ≡ encode_utf8 c ++ rest → columns_of (chars bs) ≡ width c + columns_of (chars rest)
columns_of_next bs rest c utf8 e = ap columns_of (chars_past_char bs rest c utf8 e)

-- no bytes take no column
pub columns_of_none : (bs : List ℕ) → length bs ≡ 0 → columns_of (chars bs) ≡ 0
columns_of_none bs none = ap columns_of (no_chars bs none)

-- one more character has taken its columns
pub less_beside : (bs rest : List ℕ) (c left taken new whole : ℕ) → IsUtf8 bs → bs ≡ encode_utf8 c ++ rest → taken ≡ width c → new ≡ left - taken
    → left - columns_of (chars bs) ≡ whole → new - columns_of (chars rest) ≡ whole
less_beside bs rest c left taken new whole utf8 e of_taken of_new so_far = omega (arith, columns_of_next bs rest c utf8 e, of_taken, of_new, so_far)

fits_less : (k w left new : ℕ) → w ≤ left → new ≡ left - w → nat_le k new ≡ nat_le (w + k) left
fits_less k w left new within of_new = grind (arith, nat_tests)

-- what comes fits where it fits with the character before it
pub fits_beside : (bs rest : List ℕ) (c left taken new : ℕ) (whole : Bool) → IsUtf8 bs → bs ≡ encode_utf8 c ++ rest → taken ≡ width c
    → taken ≤ left → new ≡ left - taken → nat_le (columns_of (chars bs)) left ≡ whole → nat_le (columns_of (chars rest)) new ≡ whole
fits_beside bs rest c left taken new whole utf8 e of_taken within of_new so_far =
    fits_less (columns_of (chars rest)) taken left new within of_new
    ∙ ap (λ n. nat_le n left) (ap (λ n. n + columns_of (chars rest)) of_taken ∙ sym (columns_of_next bs rest c utf8 e)) ∙ so_far

past_all : (k w left : ℕ) → left < w → nat_le (w + k) left ≡ false
past_all k w left past = grind (arith, nat_tests)

-- a character that does not fit
pub fits_no_more : (bs rest : List ℕ) (c left taken : ℕ) (whole : Bool) → IsUtf8 bs → bs ≡ encode_utf8 c ++ rest → taken ≡ width c
    → left < taken → nat_le (columns_of (chars bs)) left ≡ whole → whole ≡ false
fits_no_more bs rest c left taken whole utf8 e of_taken past so_far =
    sym so_far ∙ ap (λ n. nat_le n left) (columns_of_next bs rest c utf8 e ∙ ap (λ n. n + columns_of (chars rest)) (sym of_taken))
    ∙ past_all (columns_of (chars rest)) taken left past

none_fits : (k left : ℕ) → k ≡ 0 → nat_le k left ≡ true
none_fits k left none = grind (arith, nat_tests)

-- no character is left
pub all_fit : (bs : List ℕ) (left : ℕ) (whole : Bool) → length bs ≡ 0 → nat_le (columns_of (chars bs)) left ≡ whole → whole ≡ true
all_fit bs left whole none so_far = sym so_far ∙ none_fits (columns_of (chars bs)) left (columns_of_none bs none)
