-- The fronts of characters that take no more than some columns.
use Rattle.std.proofs.Common.{◌≡◌, ℕ, zero, suc, ◌-◌, ◌<◌, ◌≤◌, Bool, true, false, cond, List, [], ◌∷◌, ◌++◌, length, chars, encode_utf8, encode_utf8_all, nat_le, refl, ap, sym, ◌∙◌, append_assoc, append-nil, arith}
use Rattle.std.proofs.Math.Utf8.{scalar, scalars, low_scalar}
use Rattle.std.proofs.lemmas.Bool.{and_from, and_parts, le-leb, leb-true}
use Rattle.std.proofs.lemmas.Bool.Decides.{nat_tests}
use Rattle.std.proofs.lemmas.Str.{chars_past_char, chars-encodes, encodes-append, encodes-chars, scalars-chars}
use Rattle.std.specs.Str.{IsUtf8}
use Rattle.unicode_width.proofs.Computing.{unicode_width}
use Rattle.upon_std.specs.Encoding.Columns.{columns_of, width}
use Rattle.upon_std.specs.Encoding.Truncating.{cut, ellipsis, front, truncated}
use Rattle.upon_std.proofs.EncodingLemmas.Blanks.{columns-append}
use Rattle.upon_std.proofs.EncodingLemmas.Characters.{no_chars}

-- the first character is in the front where it fits
chosen-within : (b : Bool) (c n : ℕ) (cs : List ℕ) → nat_le (width c) n ≡ b → columns_of cs ≤ n - width c → columns_of (cond b (c ∷ cs) []) ≤ n
chosen-within true c n cs fits below = omega (arith, leb-true (width c) n fits, below)
chosen-within false c n cs fits below = omega arith

pub front-within : (n : ℕ) (cs : List ℕ) → columns_of (front n cs) ≤ n
front-within n [] = omega arith
front-within n (c ∷ cs) = chosen-within (nat_le (width c) n) c n (front (n - width c) cs) refl (front-within (n - width c) cs)

width-ellipsis : width 0x2026 ≡ 1
unfolding unicode_width
width-ellipsis = refl

cut-within : (n : ℕ) (cs : List ℕ) → columns_of (cut n cs) ≤ n
cut-within zero cs = omega arith
cut-within (suc n) cs = omega (arith, front-within n cs, columns-append (front n cs) (ellipsis ∷ []), width-ellipsis)

either-within : (b : Bool) (n : ℕ) (cs : List ℕ) → nat_le (columns_of cs) n ≡ b → columns_of (cond b cs (cut n cs)) ≤ n
either-within true n cs fits = leb-true (columns_of cs) n fits
either-within false n cs fits = cut-within n cs

pub truncated-within : (n : ℕ) (cs : List ℕ) → columns_of (truncated n cs) ≤ n
truncated-within n cs = either-within (nat_le (columns_of cs) n) n cs refl

pub truncated-whole : (n : ℕ) (cs : List ℕ) → columns_of cs ≤ n → truncated n cs ≡ cs
truncated-whole n cs fits = ap (λ b. cond b cs (cut n cs)) (le-leb (columns_of cs) n fits)

-- a character that fits is the first of the front
pub front-fits : (c n : ℕ) (cs : List ℕ) → width c ≤ n → front n (c ∷ cs) ≡ c ∷ front (n - width c) cs
front-fits c n cs fits = ap (λ b. cond b (c ∷ front (n - width c) cs) []) (le-leb (width c) n fits)

past : (w n : ℕ) → n < w → nat_le w n ≡ false
past w n h = grind (arith, nat_tests)

pub front-past : (c n : ℕ) (cs : List ℕ) → n < width c → front n (c ∷ cs) ≡ []
front-past c n cs h = ap (λ b. cond b (c ∷ front (n - width c) cs) []) (past (width c) n h)

pub front-longest : (n : ℕ) (start rest : List ℕ) → columns_of start ≤ n → length start ≤ length (front n (start ++ rest))
front-longest n [] rest fits = omega arith
front-longest n (c ∷ start) rest fits =
    let more : columns_of start ≤ n - width c = omega (arith, fits) in
    let first : width c ≤ n = omega (arith, fits) in
    omega (arith, front-longest (n - width c) start rest more, ap length (front-fits c n (start ++ rest) first))

-- the characters of what is written
chosen-scalars : (b : Bool) (c : ℕ) (cs : List ℕ) → scalar c ≡ true → scalars cs ≡ true → scalars (cond b (c ∷ cs) []) ≡ true
chosen-scalars true c cs h k = and_from (scalar c) (scalars cs) h k
chosen-scalars false c cs h k = refl

front-scalars : (n : ℕ) (cs : List ℕ) → scalars cs ≡ true → scalars (front n cs) ≡ true
front-scalars n [] h = refl
front-scalars n (c ∷ cs) h =
    let parts = and_parts (scalar c) (scalars cs) h in
    chosen-scalars (nat_le (width c) n) c (front (n - width c) cs) parts.0 (front-scalars (n - width c) cs parts.1)

scalars-append : (a b : List ℕ) → scalars a ≡ true → scalars b ≡ true → scalars (a ++ b) ≡ true
scalars-append [] b h k = k
scalars-append (c ∷ cs) b h k =
    let parts = and_parts (scalar c) (scalars cs) h in
    and_from (scalar c) (scalars (cs ++ b)) parts.0 (scalars-append cs b parts.1 k)

cut-scalars : (n : ℕ) (cs : List ℕ) → scalars cs ≡ true → scalars (cut n cs) ≡ true
cut-scalars zero cs h = refl
cut-scalars (suc n) cs h =
    scalars-append (front n cs) (ellipsis ∷ []) (front-scalars n cs h) (and_from (scalar ellipsis) true (low_scalar ellipsis (omega arith)) refl)

either-scalars : (b : Bool) (n : ℕ) (cs : List ℕ) → scalars cs ≡ true → scalars (cond b cs (cut n cs)) ≡ true
either-scalars true n cs h = h
either-scalars false n cs h = cut-scalars n cs h

pub truncated-chars : (n : ℕ) (text : List ℕ) → IsUtf8 text → chars (encode_utf8_all (truncated n (chars text))) ≡ truncated n (chars text)
truncated-chars n text utf8 =
    chars-encodes (truncated n (chars text)) (either-scalars (nat_le (columns_of (chars text)) n) n (chars text) (scalars-chars text utf8))

-- one more character of the front is written
pub front-more : (bs rest old new added : List ℕ) (c left taken left' : ℕ) (whole : List ℕ) → IsUtf8 bs → bs ≡ encode_utf8 c ++ rest → taken ≡ width c
    → taken ≤ left → left' ≡ left - taken → added ≡ encode_utf8 c → new ≡ old ++ added
    → old ++ encode_utf8_all (front left (chars bs)) ≡ whole → new ++ encode_utf8_all (front left' (chars rest)) ≡ whole
front-more bs rest old new added c left taken left' whole utf8 e of_taken fits of_left of_added of_new so_far =
    let others = encode_utf8_all (front (left - width c) (chars rest)) in
    let within : width c ≤ left = omega (arith, of_taken, fits) in
    ap (λ n. new ++ encode_utf8_all (front n (chars rest))) (of_left ∙ ap (λ k. left - k) of_taken)
    ∙ ap (λ t. t ++ others) (of_new ∙ ap (λ t. old ++ t) of_added) ∙ append_assoc old (encode_utf8 c) others
    ∙ ap (λ cs. old ++ encode_utf8_all cs) (sym (ap (front left) (chars_past_char bs rest c utf8 e) ∙ front-fits c left (chars rest) within))
    ∙ so_far

-- a character that does not fit ends the front
pub front-ends : (bs rest old : List ℕ) (c left taken : ℕ) (whole : List ℕ) → IsUtf8 bs → bs ≡ encode_utf8 c ++ rest → taken ≡ width c → left < taken
    → old ++ encode_utf8_all (front left (chars bs)) ≡ whole → old ≡ whole
front-ends bs rest old c left taken whole utf8 e of_taken full so_far =
    let beyond : left < width c = omega (arith, of_taken, full) in
    sym (append-nil old)
    ∙ ap (λ cs. old ++ encode_utf8_all cs) (sym (ap (front left) (chars_past_char bs rest c utf8 e) ∙ front-past c left (chars rest) beyond))
    ∙ so_far

-- no character is left
pub front-whole : (bs old : List ℕ) (left : ℕ) (whole : List ℕ) → length bs ≡ 0 → old ++ encode_utf8_all (front left (chars bs)) ≡ whole → old ≡ whole
front-whole bs old left whole none so_far =
    sym (append-nil old) ∙ ap (λ cs. old ++ encode_utf8_all (front left cs)) (sym (no_chars bs none)) ∙ so_far

-- a text that fits is written as it is
pub truncated-text : (b : Bool) (n : ℕ) (text : List ℕ) → IsUtf8 text → b ≡ nat_le (columns_of (chars text)) n → b ≡ true
    → text ≡ encode_utf8_all (truncated n (chars text))
truncated-text b n text utf8 test fits =
    sym (ap (λ t. encode_utf8_all (cond t (chars text) (cut n (chars text)))) (sym test ∙ fits) ∙ encodes-chars text utf8)

-- a front and `…` are written of one that does not fit
pub truncated-cut : (b : Bool) (n n' : ℕ) (cs written new : List ℕ) → b ≡ nat_le (columns_of cs) n → b ≡ false → n ≡ suc n'
    → written ≡ encode_utf8_all (front n' cs) → new ≡ written ++ encode_utf8 ellipsis → new ≡ encode_utf8_all (truncated n cs)
truncated-cut b n n' cs written new test wide one_less of_written of_new =
    of_new ∙ ap (λ t. t ++ encode_utf8 ellipsis) of_written
    ∙ ap (λ t. encode_utf8_all (front n' cs) ++ t) (sym (append-nil (encode_utf8 ellipsis)))
    ∙ sym (encodes-append (front n' cs) (ellipsis ∷ []))
    ∙ ap encode_utf8_all (sym (ap (λ t. cond t cs (cut n cs)) (sym test ∙ wide) ∙ ap (λ k. cut k cs) one_less))
