-- What is wrong with a literal lies in the text: a digit, the whole literal, or the character of an escape.
use Rattle.std.proofs.Common.{◌≡◌, ℕ, zero, suc, ◌*◌, ◌+◌, ◌-◌, ◌<◌, ◌≤◌, ◌==◌, nat_lt, List, [], ◌∷◌, ◌++◌, length, drop, Bool, true, false, Option, Some, None, get_or, get_or-take, get_or-drop, encode_utf8, encode_utf8_all, refl, sym, ap, ◌∙◌, subst, arith, append_assoc, if◌then◌else◌}
use Rattle.std.specs.Char.{digit_value}
use Rattle.std.specs.Str.{IsUtf8, IsCharBoundary}
use Rattle.std.proofs.lemmas.Bool.Decides.{nat_tests}
use Rattle.std.proofs.lemmas.List.{drop-drop, drop_at}
use Rattle.std.proofs.lemmas.Str.{encode_ascii, length-encode}
use Rattle.upon_types.specs.Span.{LiesIn}
use Rattle.upon_language_spec.specs.Search.{Occurs}
use Rattle.upon_language_spec.specs.Words.{EachPasses, IsRun}
use Rattle.upon_language_spec.specs.Inside.{continues_number, Piece, plain, escape, pieces_text, string_text, IsQuoted}
use Rattle.upon_language_spec.specs.Literal.{base_and_digits, base_after_zero, escape_value}
use Rattle.upon_language_spec.specs.LiteralFaults.{NumberFault, bad_digit, too_large, magnitude_limit, digit_fault, number_fault, escape_fault}
use Rattle.upon_language_spec.proofs.SpansLieIn.Offsets.{drop-Occurs, Occurs-from_drop}
use Rattle.upon_language_spec.proofs.SpansLieIn.Token.{char_between, low_between}

-- ---- numbers are of ASCII characters
low_number : (c : ℕ) → continues_number c ≡ true → c < 128
low_number c h = grind (arith, nat_tests)

abbrev EachLow : List ℕ → Type 0
EachLow [] = Unit {0}
EachLow (b ∷ bs) = (b < 128) × EachLow bs

low_bytes : (cs : List ℕ) → EachPasses continues_number cs → EachLow (encode_utf8_all cs)
low_bytes [] h = tt
low_bytes (c ∷ cs) h =
    let low = low_number c h.0 in
    let F : List ℕ → Type 0 = λ x. EachLow (x ++ encode_utf8_all cs) in
    subst F (sym (encode_ascii c low)) (low, low_bytes cs h.1)

low_at : (bs : List ℕ) (j : ℕ) → EachLow bs → j < length bs → get_or bs j 0 < 128
low_at [] j h l = absurd (omega (arith, l))
low_at (b ∷ bs) zero h l = h.0
low_at (b ∷ bs) (suc j) h l = low_at bs j h.1 (omega (arith, l))

-- each byte of a number is below 128
byte_of : (s d : List ℕ) (p j : ℕ) → Occurs s p d → j < length d → get_or s (p + j) 0 ≡ get_or d j 0
byte_of s d p j o l = sym (ap (λ (x : List ℕ). get_or x j 0) o ∙ get_or-take (length d) (drop p s) j 0 l ∙ get_or-drop p s j 0)

pub number_between : (s : List ℕ) (p to q : ℕ) → to ≤ length s → IsRun continues_number s p to → p ≤ q → q < to → IsCharBoundary s q
number_between s p to q within run l h =
    let bytes = encode_utf8_all (run.first ∷ run.others) in
    let j = q - p in
    let below : j < length bytes = omega (arith, run.to, l, h) in
    let same : get_or s (p + j) 0 ≡ get_or bytes j 0 = byte_of s bytes p j run.occurs below in
    let low : get_or bytes j 0 < 128 = low_at bytes j (low_bytes (run.first ∷ run.others) run.each) below in
    let at : p + j ≡ q = omega (arith, l) in
    let here : get_or s q 0 ≡ get_or bytes j 0 = ap (λ k. get_or s k 0) (sym at) ∙ same in
    (omega (arith, h, within), λ m high. absurd (omega (arith, high, here, low)))

-- ---- a digit that is none of the base lies in the number
abbrev Within : ℕ → ℕ → Option NumberFault → Type 0
Within offset n None = Unit {0}
Within offset n (Some (bad_digit i)) = (offset ≤ i) × (i < n)
Within offset n (Some too_large) = Unit {0}

within_more : (offset n : ℕ) (o : Option NumberFault) → Within (offset + 1) n o → Within offset n o
within_more offset n None h = tt
within_more offset n (Some (bad_digit i)) h = (omega (arith, h.0), h.1)
within_more offset n (Some too_large) h = tt

digit_within : (base limit : ℕ) (bs : List ℕ) (value offset : ℕ) → Within offset (offset + length bs) (digit_fault base limit value offset bs)
digit_within base limit [] value offset = tt
digit_within base limit (b ∷ bs) value offset = by_underscore (b == 95) (nat_lt (digit_value b) base) (nat_lt limit (value * base + digit_value b)) (digit_within base limit bs value (offset + 1)) (digit_within base limit bs (value * base + digit_value b) (offset + 1))
  where
    longer : (o : Option NumberFault) → Within (offset + 1) (offset + 1 + length bs) o → Within offset (offset + length (b ∷ bs)) o
    longer o h = let F : ℕ → Type 0 = λ n. Within (offset + 1) n o in within_more offset (offset + length (b ∷ bs)) o (subst F (omega arith) h)

    by_underscore : (under digit large : Bool) → Within (offset + 1) (offset + 1 + length bs) (digit_fault base limit value (offset + 1) bs) → Within (offset + 1) (offset + 1 + length bs) (digit_fault base limit (value * base + digit_value b) (offset + 1) bs)
        → Within offset (offset + length (b ∷ bs)) (if under then digit_fault base limit value (offset + 1) bs else (if digit then (if large then Some too_large else digit_fault base limit (value * base + digit_value b) (offset + 1) bs) else Some (bad_digit offset)))
    by_underscore true digit large x y = longer (digit_fault base limit value (offset + 1) bs) x
    by_underscore false true true x y = tt
    by_underscore false true false x y = longer (digit_fault base limit (value * base + digit_value b) (offset + 1) bs) y
    by_underscore false false large x y = (omega arith, omega arith)

-- how many characters come after the prefix
abbrev digits_of : ℕ × List ℕ → ℕ
digits_of r = length r.1

by_prefix : (b : ℕ) (bs : List ℕ) (x y z : Bool) → digits_of (if x then (2, bs) else (if y then (8, bs) else (if z then (16, bs) else (10, 48 ∷ b ∷ bs)))) ≤ length (48 ∷ b ∷ bs)
by_prefix b bs true y z = omega arith
by_prefix b bs false true z = omega arith
by_prefix b bs false false true = omega arith
by_prefix b bs false false false = omega arith

zero_within : (bs : List ℕ) → digits_of (base_after_zero bs) ≤ length (48 ∷ bs)
zero_within [] = omega arith
zero_within (b ∷ bs) = by_prefix b bs (b == 98) (b == 111) (b == 120)

based_within : (text : List ℕ) → digits_of (base_and_digits text) ≤ length text
based_within [] = omega arith
based_within (b ∷ bs) = by_zero (b == 48)
  where
    by_zero : (x : Bool) → digits_of (if x then base_after_zero bs else (10, b ∷ bs)) ≤ length (b ∷ bs)
    by_zero true = omega (arith, zero_within bs)
    by_zero false = omega arith

pub digit_in_number : (minus : Bool) (text : List ℕ) (i : ℕ) → number_fault minus text ≡ Some (bad_digit i) → i < length text
digit_in_number minus text i e =
    let short = based_within text in
    let from = length text - length (base_and_digits text).1 in
    let all = digit_within (base_and_digits text).0 (magnitude_limit minus) (base_and_digits text).1 0 from in
    let F : Option NumberFault → Type 0 = λ o. Within from (from + length (base_and_digits text).1) o in
    let found : (from ≤ i) × (i < from + length (base_and_digits text).1) = subst F e all in
    omega (arith, found.1, short)

-- ---- the character of an escape
pub rest_after : (s : List ℕ) (p : ℕ) (d rest : List ℕ) → drop p s ≡ d ++ rest → drop (p + length d) s ≡ rest
rest_after s p d rest e = sym (drop-drop (length d) p s) ∙ ap (drop (length d)) e ∙ drop_at d rest (length d) refl

between_after : (s : List ℕ) (text : IsUtf8 s) (p : ℕ) (d : List ℕ) (c : ℕ) → d ≡ encode_utf8 c → IsCharBoundary s p → Occurs s p (encode_utf8 c) → IsCharBoundary s (p + length (encode_utf8 c))
between_after s text p d c e start o = subst (λ n. IsCharBoundary s (p + n)) (sym (length-encode c)) (char_between s text p start c o)

one_some : {x y : ℕ × ℕ} → Some x ≡ Some y → x ≡ y
one_some e = cc

escape_char : (s : List ℕ) (text : IsUtf8 s) (pieces : List Piece) (rest : List ℕ) (offset from long : ℕ) → IsCharBoundary s offset → drop offset s ≡ pieces_text pieces ++ rest → escape_fault offset pieces ≡ Some (from, long) → (offset ≤ from) × IsCharBoundary s from × IsCharBoundary s (from + long)
escape_char s text [] rest offset from long start reads e = absurd cc
escape_char s text (plain c ∷ pieces) rest offset from long start reads e =
    let here : Occurs s offset (encode_utf8 c) = Occurs-from_drop s offset (encode_utf8 c) (pieces_text pieces ++ rest) (reads ∙ append_assoc (encode_utf8 c) (pieces_text pieces) rest) in
    let next = between_after s text offset (encode_utf8 c) c refl start here in
    let on : drop (offset + length (encode_utf8 c)) s ≡ pieces_text pieces ++ rest = rest_after s offset (encode_utf8 c) (pieces_text pieces ++ rest) (reads ∙ append_assoc (encode_utf8 c) (pieces_text pieces) rest) in
    let more = escape_char s text pieces rest (offset + length (encode_utf8 c)) from long next on e in
    (omega (arith, more.0), more.1, more.2)
escape_char s text (escape c ∷ pieces) rest offset from long start reads e =
    let slash : drop offset s ≡ (92 ∷ []) ++ (encode_utf8 c ++ (pieces_text pieces ++ rest)) = reads ∙ ap (λ (x : List ℕ). 92 ∷ x) (append_assoc (encode_utf8 c) (pieces_text pieces) rest) in
    let at : Occurs s offset (92 ∷ []) = Occurs-from_drop s offset (92 ∷ []) (encode_utf8 c ++ (pieces_text pieces ++ rest)) slash in
    let next : IsCharBoundary s (offset + 1) = low_between s text offset start 92 (offset + 1) (omega arith) (subst (Occurs s offset) (sym (encode_ascii 92 (omega arith))) at) refl in
    let second : drop (offset + 1) s ≡ encode_utf8 c ++ (pieces_text pieces ++ rest) = rest_after s offset (92 ∷ []) (encode_utf8 c ++ (pieces_text pieces ++ rest)) slash in
    let here : Occurs s (offset + 1) (encode_utf8 c) = Occurs-from_drop s (offset + 1) (encode_utf8 c) (pieces_text pieces ++ rest) second in
    let last = between_after s text (offset + 1) (encode_utf8 c) c refl next here in
    let third : drop (offset + 1 + length (encode_utf8 c)) s ≡ pieces_text pieces ++ rest = rest_after s (offset + 1) (encode_utf8 c) (pieces_text pieces ++ rest) second in
    by_meaning (escape_value c) next last e (escape_char s text pieces rest (offset + 1 + length (encode_utf8 c)) from long last third)
  where
    by_meaning : (o : Option (List ℕ)) → IsCharBoundary s (offset + 1) → IsCharBoundary s (offset + 1 + length (encode_utf8 c)) → (elim o as (λ _. Option (ℕ × ℕ)) [ None ↦ Some (offset + 1, length (encode_utf8 c)) | Some t ↦ escape_fault (offset + 1 + length (encode_utf8 c)) pieces ]) ≡ Some (from, long)
        → (escape_fault (offset + 1 + length (encode_utf8 c)) pieces ≡ Some (from, long) → (offset + 1 + length (encode_utf8 c) ≤ from) × IsCharBoundary s from × IsCharBoundary s (from + long)) → (offset ≤ from) × IsCharBoundary s from × IsCharBoundary s (from + long)
    by_meaning None next last e others =
        let pair : (offset + 1, length (encode_utf8 c)) ≡ (from, long) = one_some e in
        let one : offset + 1 ≡ from = ap (λ (x : ℕ × ℕ). x.0) pair in
        let two : length (encode_utf8 c) ≡ long = ap (λ (x : ℕ × ℕ). x.1) pair in
        let F : ℕ → ℕ → Type 0 = λ x y. IsCharBoundary s x × IsCharBoundary s (x + y) in
        let both : F from long = subst (λ x. F x long) one (subst (λ y. F (offset + 1) y) two (next, last)) in
        (omega (arith, one), both.0, both.1)
    by_meaning (Some t) next last e others = let more = others e in (omega (arith, more.0), more.1, more.2)

pub escape_lies : (s : List ℕ) (text : IsUtf8 s) (p to from long : ℕ) → IsCharBoundary s p → (q : IsQuoted s p to) → escape_fault (p + 1) q.pieces ≡ Some (from, long) → LiesIn s (record { m = from; n = from + long })
escape_lies s text p to from long start q e =
    let behind = drop (p + length (string_text q.pieces)) s in
    let reads : drop p s ≡ (34 ∷ []) ++ (pieces_text q.pieces ++ ((34 ∷ []) ++ behind)) = drop-Occurs s p (string_text q.pieces) q.occurs ∙ ap (λ (x : List ℕ). 34 ∷ x) (append_assoc (pieces_text q.pieces) (34 ∷ []) behind) in
    let at : Occurs s p (34 ∷ []) = Occurs-from_drop s p (34 ∷ []) (pieces_text q.pieces ++ ((34 ∷ []) ++ behind)) reads in
    let next : IsCharBoundary s (p + 1) = low_between s text p start 34 (p + 1) (omega arith) (subst (Occurs s p) (sym (encode_ascii 34 (omega arith))) at) refl in
    let found = escape_char s text q.pieces ((34 ∷ []) ++ behind) (p + 1) from long next (rest_after s p (34 ∷ []) (pieces_text q.pieces ++ ((34 ∷ []) ++ behind)) reads) e in
    record { ordered = omega arith; start = found.1; end = found.2 }
