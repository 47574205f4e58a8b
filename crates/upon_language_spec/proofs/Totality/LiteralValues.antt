-- A literal that has no fault denotes something.
use Rattle.std.proofs.Common.{◌≡◌, ℕ, zero, suc, ◌+◌, ◌-◌, ◌*◌, ◌^◌, ◌<◌, ◌≤◌, ◌==◌, nat_lt, ℤ, FitsSigned, List, [], ◌∷◌, ◌++◌, length, take, drop, Bool, true, false, Option, Some, None, if◌then◌else◌, encode_utf8, encode_utf8_all, codes, refl, sym, ap, ◌∙◌, subst, arith}
use Rattle.std.proofs.Math.Nat.{add-mul, mul_assoc, pow-zero, pow-succ'}
use Rattle.std.proofs.lemmas.Bool.{ltb-true}
use Rattle.std.proofs.lemmas.Bool.Decides.{nat_tests}
use Rattle.std.proofs.lemmas.Str.{encode_ascii}
use Rattle.std.specs.Int.{w64}
use Rattle.std.specs.Char.{digit_value, is_ascii_digit}
use Rattle.std.specs.Option.{option_map}
use Rattle.upon_types.specs.Span.{slice}
use Rattle.upon_language_spec.specs.Cut.{Lexeme}
use Rattle.upon_language_spec.specs.Words.{IsRun, EachPasses}
use Rattle.upon_language_spec.specs.Inside.{Piece, plain, escape, IsQuoted}
use Rattle.upon_language_spec.specs.Literal.{sum_of_digits, digit_then, digits_in, base_and_digits, with_sign, IsInteger, IsIndex, escape_value, join, text_of_pieces, IsText}
use Rattle.upon_language_spec.specs.LiteralFaults.{NumberFault, bad_digit, too_large, magnitude_limit, digit_fault, number_fault, is_float, base_text, index_value, escape_fault}
use Rattle.upon_language_spec.specs.LaterFaults.{minus_before, start_from, number_report_of, number_report}

abbrev Digits : ℕ → ℕ → ℕ → List ℕ → Type 0
Digits base limit value bs = (ds : List ℕ) × (digits_in base bs ≡ Some ds) × (value * base ^ length ds + sum_of_digits base ds ≤ limit)

more_digits : (base limit value d : ℕ) (ds : List ℕ) → (value * base + d) * base ^ length ds + sum_of_digits base ds ≤ limit → value * base ^ suc (length ds) + (d * base ^ length ds + sum_of_digits base ds) ≤ limit
more_digits base limit value d ds h =
    let p = base ^ length ds in
    let G : ℕ → Type 0 = λ x. value * x + (d * p + sum_of_digits base ds) ≤ limit in
    let apart : value * (base * p) + (d * p + sum_of_digits base ds) ≤ limit = omega (arith, h, add-mul (value * base) d p, mul_assoc value base p) in
    subst G (sym (pow-succ' base (length ds))) apart

abbrev Goal : ℕ → ℕ → ℕ → Option (List ℕ) → Type 0
Goal base limit value o = (ds : List ℕ) × (o ≡ Some ds) × (value * base ^ length ds + sum_of_digits base ds ≤ limit)

abbrev Others : ℕ → ℕ → ℕ → ℕ → ℕ → List ℕ → Type 0
Others base limit value b offset bs = value * base + digit_value b ≤ limit → digit_fault base limit (value * base + digit_value b) (offset + 1) bs ≡ None → Digits base limit (value * base + digit_value b) bs

digits_read : (base limit : ℕ) (bs : List ℕ) (value offset : ℕ) → value ≤ limit → digit_fault base limit value offset bs ≡ None → Digits base limit value bs
digits_read base limit [] value offset l h = let one : base ^ 0 ≡ 1 = pow-zero base in let F : ℕ → Type 0 = λ x. value * x + 0 ≤ limit in ([], refl, subst F (sym one) (omega (arith, l)))
digits_read base limit (b ∷ bs) value offset l h = by_underscore (b == 95) (digits_read base limit bs value (offset + 1) l) (λ k. digits_read base limit bs (value * base + digit_value b) (offset + 1) k) h
  where
    pushed : (o : Option (List ℕ)) → (ds : List ℕ) × (o ≡ Some ds) × ((value * base + digit_value b) * base ^ length ds + sum_of_digits base ds ≤ limit) → Goal base limit value (option_map (λ ds. digit_value b ∷ ds) o)
    pushed o (ds, e, k) = (digit_value b ∷ ds, ap (option_map (λ es. digit_value b ∷ es)) e, more_digits base limit value (digit_value b) ds k)

    by_limit : (test : Bool) → nat_lt limit (value * base + digit_value b) ≡ test → Others base limit value b offset bs → (if test then Some too_large else digit_fault base limit (value * base + digit_value b) (offset + 1) bs) ≡ None → Goal base limit value (option_map (λ ds. digit_value b ∷ ds) (digits_in base bs))
    by_limit true e others k = absurd cc
    by_limit false e others k = pushed (digits_in base bs) (others (grind (arith, e)) k)

    by_base : (test : Bool) → Others base limit value b offset bs → (if test then (if nat_lt limit (value * base + digit_value b) then Some too_large else digit_fault base limit (value * base + digit_value b) (offset + 1) bs) else Some (bad_digit offset)) ≡ None → Goal base limit value (if test then option_map (λ ds. digit_value b ∷ ds) (digits_in base bs) else None)
    by_base true others k = by_limit (nat_lt limit (value * base + digit_value b)) refl others k
    by_base false others k = absurd cc

    by_underscore : (test : Bool) → (digit_fault base limit value (offset + 1) bs ≡ None → Digits base limit value bs) → Others base limit value b offset bs → (if test then digit_fault base limit value (offset + 1) bs
        else (if nat_lt (digit_value b) base then (if nat_lt limit (value * base + digit_value b) then Some too_large else digit_fault base limit (value * base + digit_value b) (offset + 1) bs) else Some (bad_digit offset))) ≡ None
        → Goal base limit value (if test then digits_in base bs else digit_then base (digit_value b) (digits_in base bs))
    by_underscore true same others k = same k
    by_underscore false same others k = by_base (nat_lt (digit_value b) base) others k

fits_limit : (minus : Bool) (n : ℕ) → n ≤ magnitude_limit minus → FitsSigned w64 (with_sign minus n)
fits_limit false n h = record { sfits = omega (arith, h) }
fits_limit true zero h = record { sfits = ltb-true _ _ refl }
fits_limit true (suc n) h = record { sfits = omega (arith, h) }

pub integer_stands : (minus : Bool) (text : List ℕ) → number_fault minus text ≡ None → (z : ℤ) × IsInteger minus text z
integer_stands minus text h =
    let base = (base_and_digits text).0 in
    let (ds, are, within) = digits_read base (magnitude_limit minus) (base_and_digits text).1 0 (length text - length (base_and_digits text).1) (omega arith) h in
    (with_sign minus (sum_of_digits base ds), record { digits = ds; are_digits = are; value = refl; in_range = fits_limit minus (sum_of_digits base ds) (omega (arith, within)) })

pub number_stands : (text : List ℕ) (before : Option Lexeme) (p n : ℕ) → number_report text before p n ≡ None → (z : ℤ) × IsInteger (minus_before before) text z
number_stands text before p n h = by_float (is_float text) h
  where
    by_fault : (o : Option NumberFault) → number_fault (minus_before before) text ≡ o → number_report_of (base_text text) (start_from before p) p n o ≡ None → number_fault (minus_before before) text ≡ None
    by_fault None e k = e
    by_fault (Some (bad_digit i)) e k = absurd cc
    by_fault (Some too_large) e k = absurd cc

    by_float : (b : Bool) → (if b then Some (record { span = record { m = start_from before p; n = n }; reason = codes "invalid float literal" }) else number_report_of (base_text text) (start_from before p) p n (number_fault (minus_before before) text)) ≡ None → (z : ℤ) × IsInteger (minus_before before) text z
    by_float true k = absurd cc
    by_float false k = integer_stands (minus_before before) text (by_fault (number_fault (minus_before before) text) refl k)

-- an index
pub ascii_digits : (cs : List ℕ) → EachPasses is_ascii_digit cs → (ds : List ℕ) × (digits_in 10 (encode_utf8_all cs) ≡ Some ds)
ascii_digits [] each = ([], refl)
ascii_digits (c ∷ cs) each =
    let (ds, e) = ascii_digits cs each.1 in
    let low : c < 128 = grind (arith, nat_tests, each.0) in
    let bytes : encode_utf8 c ++ encode_utf8_all cs ≡ c ∷ encode_utf8_all cs = ap (λ x. x ++ encode_utf8_all cs) (encode_ascii c low) in
    (digit_value c ∷ ds, ap (digits_in 10) bytes ∙ first c (encode_utf8_all cs) ds each.0 e)
  where
    if_no : (b : Bool) (x y : Option (List ℕ)) → b ≡ false → (if b then x else y) ≡ y
    if_no true x y h = absurd cc
    if_no false x y h = refl

    if_yes : (b : Bool) (x y : Option (List ℕ)) → b ≡ true → (if b then x else y) ≡ x
    if_yes true x y h = refl
    if_yes false x y h = absurd cc

    first : (c : ℕ) (rest ds : List ℕ) → is_ascii_digit c ≡ true → digits_in 10 rest ≡ Some ds → digits_in 10 (c ∷ rest) ≡ Some (digit_value c ∷ ds)
    first c rest ds h e =
        let other : (c == 95) ≡ false = grind (arith, nat_tests, h) in
        let small : nat_lt (digit_value c) 10 ≡ true = grind (arith, nat_tests, h) in
        if_no (c == 95) _ _ other ∙ if_yes (nat_lt (digit_value c) 10) _ _ small ∙ ap (option_map (λ es. digit_value c ∷ es)) e

pub index_stands : (s : List ℕ) (m n : ℕ) → IsRun is_ascii_digit s m n → nat_lt (index_value (digits_in 10 (slice s (record { m = m; n = n })))) (2 ^ 64) ≡ true → (i : ℕ) × IsIndex (slice s (record { m = m; n = n })) i
index_stands s m n run small =
    let text = encode_utf8_all (run.first ∷ run.others) in
    let digits = ascii_digits (run.first ∷ run.others) run.each in
    let is : slice s (record { m = m; n = n }) ≡ text = ap (λ k. take k (drop m s)) (omega (arith, run.to)) ∙ sym run.occurs in
    let are : digits_in 10 (slice s (record { m = m; n = n })) ≡ Some digits.0 = ap (digits_in 10) is ∙ digits.1 in
    let F : Option (List ℕ) → Type 0 = λ o. nat_lt (index_value o) (2 ^ 64) ≡ true in
    (sum_of_digits 10 digits.0, record { digits = digits.0; are_digits = are; value = refl; in_range = ltb-true _ _ (subst F are small) })

-- a string
pieces_stand : (pieces : List Piece) (offset : ℕ) → escape_fault offset pieces ≡ None → (t : List ℕ) × (text_of_pieces pieces ≡ Some t)
pieces_stand [] offset h = ([], refl)
pieces_stand (plain c ∷ pieces) offset h = let (t, e) = pieces_stand pieces (offset + length (encode_utf8 c)) h in (encode_utf8 c ++ t, ap (join (Some (encode_utf8 c))) e)
pieces_stand (escape c ∷ pieces) offset h = by_escape (escape_value c) (λ k. pieces_stand pieces (offset + 1 + length (encode_utf8 c)) k) h
  where
    by_escape : (o : Option (List ℕ)) → (escape_fault (offset + 1 + length (encode_utf8 c)) pieces ≡ None → (t : List ℕ) × (text_of_pieces pieces ≡ Some t)) → ◌≡◌ {A = Option (ℕ × ℕ)} (elim o [ None ↦ Some (offset + 1, length (encode_utf8 c)) | Some text ↦ escape_fault (offset + 1 + length (encode_utf8 c)) pieces ]) None → (t : List ℕ) × (join o (text_of_pieces pieces) ≡ Some t)
    by_escape None others k = absurd cc
    by_escape (Some a) others k = let (t, e) = others k in (a ++ t, ap (join (Some a)) e)

pub text_stands : (s : List ℕ) (m n : ℕ) (q : IsQuoted s m n) (offset : ℕ) → escape_fault offset q.pieces ≡ None → (t : List ℕ) × IsText s m n t
text_stands s m n q offset h = let (t, e) = pieces_stand q.pieces offset h in (t, record { string = q; value = e })
