-- What `parse` answers of a number's text is the integer that the text is, if it is one.
use Rattle.std.proofs.Common.{◌≡◌, ℕ, zero, suc, ◌&&◌, List, ℤ, pos, neg_ℤ, Bool, true, false, cond, Result, Ok, Err, refl, sym, ap, subst, ◌∙◌, arith, lt-ltb, le-leb, ltb-true, leb-true}
use Rattle.std.proofs.lemmas.Bool.{and_parts}
use Rattle.std.proofs.lemmas.Str.Parse.{IsNumeralModel, numerals_by_value, tells_all_ascii_digits}
use Rattle.std.specs.Int.{w64}
use Rattle.std.specs.Prelude.{FitsSigned, if◌then◌else◌}
use Rattle.std.specs.Str.{all_ascii_digits}
use Rattle.std.specs.Str.Parse.{IsNumeral, ParsesSigned, digits_value, signed_digits_value, starts_with_minus, without_leading_sign}
use Rattle.upon_types.specs.Val.{Val, int_val, text_val}
use Rattle.upon_json.specs.Value.{is_in_range, is_integer, number_val}

in_words : IsNumeralModel (λ ds. all_ascii_digits ds ≡ true) (digits_value 10)
in_words = numerals_by_value (λ ds. all_ascii_digits ds ≡ true) tells_all_ascii_digits

fits : (minus : Bool) (n : ℕ) → is_in_range minus n ≡ true → FitsSigned w64 (cond minus (neg_ℤ (pos n)) (pos n))
fits true zero h = record { sfits = omega arith }
fits true (suc n) h = record { sfits = leb-true _ _ h }
fits false n h = record { sfits = ltb-true _ _ h }

in_range : (minus : Bool) (n : ℕ) → FitsSigned w64 (cond minus (neg_ℤ (pos n)) (pos n)) → is_in_range minus n ≡ true
in_range true zero h = refl
in_range true (suc n) h = le-leb _ _ h.sfits
in_range false n h = lt-ltb _ _ h.sfits

abbrev IsReadable : List ℕ → Type 0
IsReadable text = IsNumeral 10 (without_leading_sign text) × FitsSigned w64 (signed_digits_value 10 text)

readable : (text : List ℕ) → is_integer text ≡ true → IsReadable text
readable text is =
    let parts = and_parts _ _ is in
    let digits = and_parts _ _ parts.0 in
    ((ltb-true _ _ digits.0, in_words.to _ digits.1), fits (starts_with_minus text) (digits_value 10 (without_leading_sign text)) parts.1)

is_one : (text : List ℕ) → IsReadable text → is_integer text ≡ true
is_one text h =
    let some = lt-ltb _ _ h.0.0 in
    let digits = in_words.from _ h.0.1 in
    let range = in_range (starts_with_minus text) (digits_value 10 (without_leading_sign text)) h.1 in
    λ i. (some i && digits i) && range i

is_none : (b : Bool) → ¬ (b ≡ true) → b ≡ false
is_none true h = absurd (h refl)
is_none false h = refl

abbrev either : List ℕ → Bool → Val
either text b = if b then int_val (signed_digits_value 10 text) else text_val text

-- an integer that was read is one of 64 bits
pub fits_read : {E : Type 0} (text : List ℕ) (r : Result ℤ E) (n : ℤ) → ParsesSigned w64 10 text r → r ≡ Ok n → FitsSigned w64 n
fits_read {E = E} text r n parses is =
    let read : IsReadable text × (n ≡ signed_digits_value 10 text) = subst (ParsesSigned {E = E} w64 10 text) is parses in
    subst (FitsSigned w64) (sym read.1) read.0.1

-- a text that was read as an integer is that integer
pub read_integer : {E : Type 0} (text : List ℕ) (r : Result ℤ E) (n : ℤ) → ParsesSigned w64 10 text r → r ≡ Ok n → int_val n ≡ number_val text
read_integer {E = E} text r n parses is =
    let read : IsReadable text × (n ≡ signed_digits_value 10 text) = subst (ParsesSigned {E = E} w64 10 text) is parses in
    ap int_val read.1 ∙ sym (ap (either text) (is_one text read.0))

-- one that was not is the text
pub read_text : {E : Type 0} (text : List ℕ) (r : Result ℤ E) (e : E) → ParsesSigned w64 10 text r → r ≡ Err e → text_val text ≡ number_val text
read_text {E = E} text r e parses is =
    let unread : ¬ (IsReadable text) = subst (ParsesSigned {E = E} w64 10 text) is parses in
    sym (ap (either text) (is_none (is_integer text) (λ one. unread (readable text one))))
