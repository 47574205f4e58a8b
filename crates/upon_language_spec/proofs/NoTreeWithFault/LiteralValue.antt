-- A literal that denotes something has no fault.
use Rattle.std.proofs.Common.{◌≡◌, ◌⊎◌, inl, inr, ℕ, zero, suc, ◌+◌, ◌-◌, ◌*◌, ◌^◌, ◌<◌, ◌≤◌, ◌==◌, ◌||◌, nat_lt, ℤ, FitsSigned, List, [], ◌∷◌, ◌++◌, length, Bool, true, false, Option, Some, None, if◌then◌else◌, encode_utf8, refl, sym, ap, ◌∙◌, subst, arith}
use Rattle.std.proofs.Math.Nat.{add-mul, mul_assoc, pow-succ', one-le-pow}
use Rattle.std.proofs.lemmas.Bool.{eqb-true, ne_eqb, ltb-true, lt-ltb, le-ltb}
use Rattle.std.proofs.lemmas.List.Folds.{list_any-append}
use Rattle.std.specs.Int.{w64}
use Rattle.std.specs.Char.{digit_value}
use Rattle.std.specs.Option.{option_map}
use Rattle.upon_language_spec.specs.Inside.{Piece, plain, escape, IsQuoted}
use Rattle.upon_language_spec.specs.Literal.{sum_of_digits, digit_then, digits_in, base_by, base_after_zero, base_and_digits, with_sign, IsInteger, IsIndex, escape_value, join, text_of_pieces, IsText}
use Rattle.upon_language_spec.specs.LiteralFaults.{NumberFault, magnitude_limit, digit_fault, number_fault, is_float, index_value, escape_fault}
use Rattle.upon_language_spec.proofs.OneTree.Literal.{one_pieces}

-- digits, one by one
by_underscore : (test : Bool) (base d : ℕ) (others : Option (List ℕ)) (ds : List ℕ) → (if test then others else digit_then base d others) ≡ Some ds → ((test ≡ true) × (others ≡ Some ds)) ⊎ ((test ≡ false) × (digit_then base d others ≡ Some ds))
by_underscore true base d others ds e = inl (refl, e)
by_underscore false base d others ds e = inr (refl, e)

by_size : (test : Bool) (d : ℕ) (others : Option (List ℕ)) (ds : List ℕ) → (if test then option_map (λ es. d ∷ es) others else None) ≡ Some ds → (es : List ℕ) × (test ≡ true) × (others ≡ Some es) × (ds ≡ d ∷ es)
by_size true d None ds e = absurd cc
by_size true d (Some es) ds e = (es, refl, refl, cc)
by_size false d others ds e = absurd cc

-- an underscore or a digit, and the others
abbrev FirstDigit : ℕ → ℕ → List ℕ → List ℕ → Type 0
FirstDigit base b bs ds = ((b == 95) ≡ true × (digits_in base bs ≡ Some ds)) ⊎ ((es : List ℕ) × ((b == 95) ≡ false) × (nat_lt (digit_value b) base ≡ true) × (digits_in base bs ≡ Some es) × (ds ≡ digit_value b ∷ es))

first_digit : (base b : ℕ) (bs ds : List ℕ) → digits_in base (b ∷ bs) ≡ Some ds → FirstDigit base b bs ds
first_digit base b bs ds e = elim (by_underscore (b == 95) base (digit_value b) (digits_in base bs) ds e) [
  | inl here ↦ inl here
  | inr other ↦ let digit = by_size (nat_lt (digit_value b) base) (digit_value b) (digits_in base bs) ds other.1 in inr (digit.0, other.0, digit.1, digit.2, digit.3)
]

if_true : (test : Bool) (x y : Option NumberFault) → test ≡ true → x ≡ None → (if test then x else y) ≡ None
if_true true x y e h = h
if_true false x y e h = absurd cc

if_false : (test : Bool) (x y : Option NumberFault) → test ≡ false → y ≡ None → (if test then x else y) ≡ None
if_false true x y e h = absurd cc
if_false false x y e h = h

one_more : (value base d p sum limit : ℕ) → value * (base * p) + (d * p + sum) ≤ limit → (value * base + d) * p + sum ≤ limit
one_more value base d p sum limit h = omega (arith, h, add-mul (value * base) d p, mul_assoc value base p)

value_within : (v p sum limit : ℕ) → 1 ≤ p → v * p + sum ≤ limit → v ≤ limit
value_within v zero sum limit one h = absurd (omega (arith, one))
value_within v (suc p) sum limit one h = grind (arith, h)

pub no_digit_fault : (base limit value offset : ℕ) (bs ds : List ℕ) → 1 ≤ base → digits_in base bs ≡ Some ds → value * base ^ length ds + sum_of_digits base ds ≤ limit → digit_fault base limit value offset bs ≡ None
no_digit_fault base limit value offset [] ds big e l = refl
no_digit_fault base limit value offset (b ∷ bs) ds big e l = elim (first_digit base b bs ds e) [
  | inl here ↦ if_true (b == 95) _ _ here.0 (no_digit_fault base limit value (offset + 1) bs ds big here.1 l)
  | inr digit ↦
      let es = digit.0 in
      let d = digit_value b in
      let p = base ^ length es in
      let F : List ℕ → Type 0 = λ x. value * base ^ length x + sum_of_digits base x ≤ limit in
      let moved : value * base ^ suc (length es) + (d * p + sum_of_digits base es) ≤ limit = subst F digit.4 l in
      let G : ℕ → Type 0 = λ x. value * x + (d * p + sum_of_digits base es) ≤ limit in
      let grown : (value * base + d) * p + sum_of_digits base es ≤ limit = one_more value base d p (sum_of_digits base es) limit (subst G (pow-succ' base (length es)) moved) in
      let within : value * base + d ≤ limit = value_within (value * base + d) p (sum_of_digits base es) limit (one-le-pow (length es) base big) grown in
      if_false (b == 95) _ _ digit.1 (if_true (nat_lt d base) _ _ digit.2 (if_false (nat_lt limit (value * base + d)) _ _ (le-ltb limit (value * base + d) within) (no_digit_fault base limit (value * base + d) (offset + 1) bs es big digit.3 grown)))
]

-- no sign and no dot is a digit
abbrev is_sign : ℕ → Bool
is_sign b = (b == 46) || (b == 43) || (b == 45)

no_sign_at : (b : ℕ) → (b ≡ 46 → ⊥) → (b ≡ 43 → ⊥) → (b ≡ 45 → ⊥) → is_sign b ≡ false
no_sign_at b x y z = rw (ne_eqb b 46 x, ne_eqb b 43 y, ne_eqb b 45 z)

value_apart : (b c base : ℕ) → base ≤ 36 → nat_lt (digit_value b) base ≡ true → digit_value c ≡ 36 → b ≡ c → ⊥
value_apart b c base small h v e =
    let low : digit_value b < base = ltb-true (digit_value b) base h in
    let same : digit_value b ≡ digit_value c = ap digit_value e in
    omega (arith, low, same, v, small)

underscore_no_sign : (b : ℕ) → (b == 95) ≡ true → is_sign b ≡ false
underscore_no_sign b h = ap is_sign (eqb-true b 95 h)

digit_no_sign : (b base : ℕ) → base ≤ 36 → nat_lt (digit_value b) base ≡ true → is_sign b ≡ false
digit_no_sign b base small h = no_sign_at b (value_apart b 46 base small h refl) (value_apart b 43 base small h refl) (value_apart b 45 base small h refl)

both_false : (x y : Bool) → x ≡ false → y ≡ false → (x || y) ≡ false
both_false true y e h = absurd cc
both_false false y e h = h

digits_no_sign : (base : ℕ) (bs ds : List ℕ) → base ≤ 36 → digits_in base bs ≡ Some ds → is_float bs ≡ false
digits_no_sign base [] ds small e = refl
digits_no_sign base (b ∷ bs) ds small e = elim (first_digit base b bs ds e) [
  | inl here ↦ both_false (is_sign b) (is_float bs) (underscore_no_sign b here.0) (digits_no_sign base bs ds small here.1)
  | inr digit ↦ both_false (is_sign b) (is_float bs) (digit_no_sign b base small digit.2) (digits_no_sign base bs digit.0 small digit.3)
]

-- the prefix has no sign, and the base is one of four
record Split (text : List ℕ) (base : ℕ) (others : List ℕ) : Type 0 where
  front : List ℕ
  is : text ≡ front ++ others
  no_sign : is_float front ≡ false
  low : 1 ≤ base
  high : base ≤ 36

whole : (text : List ℕ) → Split text 10 text
whole text = record { front = []; is = refl; no_sign = refl; low = omega arith; high = omega arith }

abbrev SplitAs : List ℕ → ℕ × List ℕ → Type 0
SplitAs text p = Split text p.0 p.1

choose : (test : Bool) (text : List ℕ) (p q : ℕ × List ℕ) → (test ≡ true → SplitAs text p) → (test ≡ false → SplitAs text q) → SplitAs text (if test then p else q)
choose true text p q a b = a refl
choose false text p q a b = b refl

prefixed : (b base : ℕ) (bs : List ℕ) → is_sign b ≡ false → 1 ≤ base → base ≤ 36 → SplitAs (48 ∷ b ∷ bs) (base, bs)
prefixed b base bs h low high = record { front = 48 ∷ b ∷ []; is = refl; no_sign = both_false (is_sign b) false h refl; low = low; high = high }

prefix_no_sign : (b c : ℕ) → (b == c) ≡ true → is_sign c ≡ false → is_sign b ≡ false
prefix_no_sign b c h e = ap is_sign (eqb-true b c h) ∙ e

split_by : (b : ℕ) (bs : List ℕ) → SplitAs (48 ∷ b ∷ bs) (base_by b bs)
split_by b bs = choose (b == 98) (48 ∷ b ∷ bs) (2, bs) (if b == 111 then (8, bs) else (if b == 120 then (16, bs) else (10, 48 ∷ b ∷ bs)))
    (λ h. prefixed b 2 bs (prefix_no_sign b 98 h refl) (omega arith) (omega arith))
    (λ h. choose (b == 111) (48 ∷ b ∷ bs) (8, bs) (if b == 120 then (16, bs) else (10, 48 ∷ b ∷ bs))
    (λ h. prefixed b 8 bs (prefix_no_sign b 111 h refl) (omega arith) (omega arith))
    (λ h. choose (b == 120) (48 ∷ b ∷ bs) (16, bs) (10, 48 ∷ b ∷ bs)
    (λ h. prefixed b 16 bs (prefix_no_sign b 120 h refl) (omega arith) (omega arith))
    (λ h. whole (48 ∷ b ∷ bs))))

split_zero : (bs : List ℕ) → SplitAs (48 ∷ bs) (base_after_zero bs)
split_zero [] = whole (48 ∷ [])
split_zero (b ∷ bs) = split_by b bs

split : (text : List ℕ) → SplitAs text (base_and_digits text)
split [] = whole []
split (b ∷ bs) = choose (b == 48) (b ∷ bs) (base_after_zero bs) (10, b ∷ bs)
    (λ h. let F : ℕ → Type 0 = λ x. SplitAs (x ∷ bs) (base_after_zero bs) in subst F (sym (eqb-true b 48 h)) (split_zero bs))
    (λ h. whole (b ∷ bs))

within_limit : (minus : Bool) (n : ℕ) → FitsSigned w64 (with_sign minus n) → n ≤ magnitude_limit minus
within_limit false n h = let low : n < 2 ^ 63 = h.sfits in omega (arith, low)
within_limit true zero h = omega arith
within_limit true (suc n) h = let low : n < 2 ^ 63 = h.sfits in omega (arith, low)

pub integer_no_fault : (minus : Bool) (text : List ℕ) (z : ℤ) → IsInteger minus text z → (is_float text ≡ false) × (number_fault minus text ≡ None)
integer_no_fault minus text z is =
    let base = (base_and_digits text).0 in
    let others = (base_and_digits text).1 in
    let parts : Split text base others = split text in
    let no_sign : is_float text ≡ false = ap is_float parts.is ∙ list_any-append is_sign parts.front others ∙ both_false (is_float parts.front) (is_float others) parts.no_sign (digits_no_sign base others is.digits parts.high is.are_digits) in
    let F : ℤ → Type 0 = λ x. FitsSigned w64 x in
    let fits : sum_of_digits base is.digits ≤ magnitude_limit minus = within_limit minus (sum_of_digits base is.digits) (subst F is.value is.in_range) in
    (no_sign, no_digit_fault base (magnitude_limit minus) 0 (length text - length others) others is.digits parts.low is.are_digits (omega (arith, fits)))

pub index_no_fault : (text : List ℕ) (i : ℕ) → IsIndex text i → nat_lt (index_value (digits_in 10 text)) (2 ^ 64) ≡ true
index_no_fault text i is =
    let value : index_value (digits_in 10 text) ≡ i = ap index_value is.are_digits ∙ sym is.value in
    let F : ℕ → Type 0 = λ x. nat_lt x (2 ^ 64) ≡ true in
    subst F (sym value) (lt-ltb i (2 ^ 64) is.in_range)

-- strings
both_parts : (x y : Option (List ℕ)) (t : List ℕ) → join x y ≡ Some t → (a c : List ℕ) × (x ≡ Some a) × (y ≡ Some c)
both_parts (Some a) (Some c) t e = (a, c, refl, refl)
both_parts (Some a) None t e = absurd cc
both_parts None (Some c) t e = absurd cc
both_parts None None t e = absurd cc

known : (u : Option (List ℕ)) (a : List ℕ) (x y : Option (ℕ × ℕ)) → u ≡ Some a → y ≡ None → ◌≡◌ {A = Option (ℕ × ℕ)} (elim u [ None ↦ x | Some text ↦ y ]) None
known None a x y e h = absurd cc
known (Some b) a x y e h = h

no_escape_fault : (pieces : List Piece) (t : List ℕ) → text_of_pieces pieces ≡ Some t → (offset : ℕ) → escape_fault offset pieces ≡ None
no_escape_fault [] t e offset = refl
no_escape_fault (plain c ∷ pieces) t e offset =
    let parts = both_parts (Some (encode_utf8 c)) (text_of_pieces pieces) t e in
    no_escape_fault pieces parts.1 parts.3 (offset + length (encode_utf8 c))
no_escape_fault (escape c ∷ pieces) t e offset =
    let parts = both_parts (escape_value c) (text_of_pieces pieces) t e in
    known (escape_value c) parts.0 (Some (offset + 1, length (encode_utf8 c))) (escape_fault (offset + 1 + length (encode_utf8 c)) pieces) parts.2 (no_escape_fault pieces parts.1 parts.3 (offset + 1 + length (encode_utf8 c)))

pub text_no_fault : (s : List ℕ) (m n : ℕ) (t : List ℕ) (q : IsQuoted s m n) → IsText s m n t → (offset : ℕ) → escape_fault offset q.pieces ≡ None
text_no_fault s m n t q is offset = no_escape_fault q.pieces t (ap text_of_pieces (one_pieces s m n n q is.string) ∙ is.value) offset
