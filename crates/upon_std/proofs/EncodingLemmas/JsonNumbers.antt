-- An integer of 64 bits is read again of its digits.
use Rattle.std.proofs.Common.{◌≡◌, ℕ, suc, ◌^◌, ◌<◌, ◌≤◌, ◌≢◌, ◌&&◌, true, false, cond, ◌==◌, ℤ, pos, negsuc, neg_ℤ, List, [], ◌∷◌, length, get_or, take, drop, Bool, option_and_then, refl, sym, ap, ◌∙◌, arith}
use Rattle.std.specs.Fmt.{decimal, signed_decimal}
use Rattle.std.specs.Cmp.Lexicographic.{same_text}
use Rattle.std.specs.List.{starts_with}
use Rattle.std.specs.Prelude.{if◌then◌else◌, nat_eq}
use Rattle.std.specs.Str.{IsAscii, all_ascii_digits}
use Rattle.std.specs.Str.Parse.{digits_value, signed_digits_value, starts_with_minus, without_leading_plus, without_leading_sign}
use Rattle.std.proofs.lemmas.Bool.{and_from, le-leb, lt-ltb, ne_eqb}
use Rattle.std.proofs.lemmas.Fmt.{decimal_is_IsNumeral, IsAscii-decimal}
use Rattle.std.proofs.lemmas.Str.Parse.{IsNumeralModel, digit_at, numerals_by_value, tells_all_ascii_digits, without_leading_plus_none}
use Rattle.json.specs.Print.{IsNumber}
use Rattle.json.specs.Word.{after_exponent, after_fraction, after_number, after_whole, head}
use Rattle.json.proofs.Printed.Decimals.{IsNumber-decimal}
use Rattle.upon_json.specs.Context.{byte_order_mark, without_mark}
use Rattle.upon_json.specs.Value.{are_digits, is_in_range, is_integer, number_val}
use Rattle.upon_types.specs.Val.{int_val, text_val}
use Rattle.upon_std.specs.Encoding.Held.{IsOf64Bits}

in_words : IsNumeralModel (λ ds. all_ascii_digits ds ≡ true) (digits_value 10)
in_words = numerals_by_value (λ ds. all_ascii_digits ds ≡ true) tells_all_ascii_digits

-- the digits of a number
digits : (n : ℕ) → n < 2 ^ 64 → are_digits (decimal n) ≡ true
digits n h =
    let is = decimal_is_IsNumeral n h in
    and_from _ _ (lt-ltb 0 (length (decimal n)) is.0.0) (in_words.from (decimal n) is.0.1)

-- the first is no sign
no_sign : (n c : ℕ) → n < 2 ^ 64 → c < 48 → get_or (decimal n) 0 0 ≢ c
no_sign n c h low e =
    let is = decimal_is_IsNumeral n h in
    let first = digit_at (decimal n) 0 is.0.1 is.0.0 in
    omega (arith, first, e)

number_val-decimal : (n : ℕ) → n < 2 ^ 63 → number_val (decimal n) ≡ int_val (pos n)
number_val-decimal n h =
    let small : n < 2 ^ 64 = omega arith in
    let ds = decimal n in
    let value = (decimal_is_IsNumeral n small).1 in
    let minus : starts_with_minus ds ≡ false = ne_eqb (get_or ds 0 0) 45 (no_sign n 45 small (omega arith)) in
    let bare : without_leading_sign ds ≡ ds =
    ap (λ b. cond b (drop 1 ds) (without_leading_plus ds)) minus ∙ without_leading_plus_none ds (no_sign n 43 small (omega arith)) in
    let is : is_integer ds ≡ true =
    (λ i. are_digits (bare i) && is_in_range (minus i) (digits_value 10 (bare i)))
    ∙ and_from _ _ (digits n small) (ap (is_in_range false) value ∙ lt-ltb n (2 ^ 63) h) in
    let number : signed_digits_value 10 ds ≡ pos n =
    (λ i. cond (minus i) (neg_ℤ (pos (digits_value 10 (bare i)))) (pos (digits_value 10 (bare i)))) ∙ ap pos value in
    ap (λ b. if b then int_val (signed_digits_value 10 ds) else text_val ds) is ∙ ap int_val number

number_val-negative : (n : ℕ) → suc n ≤ 2 ^ 63 → number_val (45 ∷ decimal (suc n)) ≡ int_val (negsuc n)
number_val-negative n h =
    let small : suc n < 2 ^ 64 = omega arith in
    let ds = decimal (suc n) in
    let value = (decimal_is_IsNumeral (suc n) small).1 in
    let is : is_integer (45 ∷ ds) ≡ true = and_from _ _ (digits (suc n) small) (ap (is_in_range true) value ∙ le-leb (suc n) (2 ^ 63) h) in
    let number : signed_digits_value 10 (45 ∷ ds) ≡ negsuc n = ap (λ k. neg_ℤ (pos k)) value in
    ap (λ b. if b then int_val (signed_digits_value 10 (45 ∷ ds)) else text_val (45 ∷ ds)) is ∙ ap int_val number

pub number_val-signed_decimal : (z : ℤ) → IsOf64Bits z → number_val (signed_decimal z) ≡ int_val z
number_val-signed_decimal (pos n) h = number_val-decimal n h
number_val-signed_decimal (negsuc n) h = number_val-negative n h

-- ---- it is a number of JSON

head_first : (ds : List ℕ) → 0 < length ds → head ds ≡ get_or ds 0 0
head_first [] h = absurd (omega arith)
head_first (d ∷ ds) h = refl

IsNumber-negative : (n : ℕ) → n < 2 ^ 64 → IsNumber (45 ∷ decimal n)
unfolding after_number
IsNumber-negative n h =
    let ds = decimal n in
    let some = (decimal_is_IsNumeral n h).0.0 in
    let first : (head ds == 45) ≡ false = ap (λ x. x == 45) (head_first ds some) ∙ ne_eqb (get_or ds 0 0) 45 (no_sign n 45 h (omega arith)) in
    ap (λ b. option_and_then after_exponent (option_and_then after_fraction (after_whole (cond b (drop 1 ds) ds)))) (sym first) ∙ IsNumber-decimal n h

pub IsNumber-signed : (z : ℤ) → IsOf64Bits z → IsNumber (signed_decimal z)
IsNumber-signed (pos n) h = IsNumber-decimal n (omega arith)
IsNumber-signed (negsuc n) h = IsNumber-negative (suc n) (omega arith)

-- ---- it begins with no byte order mark

not_marked : (b : Bool) (x : ℕ) (xs : List ℕ) → starts_with nat_eq (x ∷ xs) byte_order_mark ≡ b → x < 128
    → (if b then drop 3 (x ∷ xs) else (x ∷ xs)) ≡ x ∷ xs
not_marked false x xs is low = refl
not_marked true x xs is low =
    let same = same_text byte_order_mark (take 3 (x ∷ xs)) (sym is) in
    let first : 239 ≡ x = ap (λ l. get_or l 0 0) same in
    absurd (omega (arith, first, low))

unmarked : (text : List ℕ) → IsAscii text → without_mark text ≡ text
unmarked [] ascii = refl
unmarked (x ∷ xs) ascii = not_marked (starts_with nat_eq (x ∷ xs) byte_order_mark) x xs refl (ascii 0)

pub without_mark-signed : (z : ℤ) → IsOf64Bits z → without_mark (signed_decimal z) ≡ signed_decimal z
without_mark-signed (pos n) h = unmarked (decimal n) (IsAscii-decimal n (omega arith))
without_mark-signed (negsuc n) h = refl
