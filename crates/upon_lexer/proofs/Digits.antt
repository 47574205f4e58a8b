-- The digits of a number read from the left: what the rest of them adds, and what is wrong with them.
use Rattle.std.proofs.Common.{◌≡◌, ℕ, suc, ◌+◌, ◌-◌, ◌*◌, ◌^◌, ◌<◌, ◌≤◌, ◌==◌, nat_lt, List, [], ◌∷◌, length, drop, Bool, true, false, Some, None, get_or, length-take, length-drop, refl, sym, ap, ◌∙◌, subst, arith, if◌then◌else◌}
use Rattle.std.proofs.Math.Nat.{add-mul, mul_assoc, pow-zero, pow-succ'}
use Rattle.std.proofs.lemmas.Bool.{ltb-true, ltb-false}
use Rattle.std.proofs.lemmas.List.{drop_all, drop_more}
use Rattle.std.specs.Char.{digit_value}
use Rattle.std.specs.Option.{option_map}
use Rattle.upon_types.specs.declared.types.Span.{Span}
use Rattle.upon_types.specs.Span.{LiesIn, slice}
use Rattle.upon_language_spec.specs.Literal.{sum_of_digits, digit_then, digits_in}
use Rattle.upon_language_spec.specs.LiteralFaults.{NumberFault, bad_digit, too_large, digit_fault, number_fault, index_value}
use Rattle.upon_lexer.specs.Literals.{fault_of_digits}
use Rattle.upon_lexer.specs.declared.literal.DigitFault.{DigitFault}
use Rattle.upon_lexer.specs.declared.literal.DigitFault.TheVariants.{BadDigit}
use Rattle.upon_language_spec.proofs.NoTreeWithFault.LiteralValue.{no_digit_fault}
use Rattle.upon_language_spec.proofs.Spans.Literals.{digit_in_number}

-- the whole comes to the value so far, moved by the digits that are left, and these
abbrev pub SumsFrom : ℕ → ℕ → List ℕ → List ℕ → Type 0
SumsFrom base value left whole = (ds : List ℕ) → digits_in base left ≡ Some ds → (es : List ℕ) × (digits_in base whole ≡ Some es) × (sum_of_digits base es ≡ value * base ^ length ds + sum_of_digits base ds)

pub sums_start : (base : ℕ) (whole : List ℕ) → SumsFrom base 0 whole whole
sums_start base whole ds e = (ds, e, omega arith)

moved : (base value d x : ℕ) (n : ℕ) → value * base ^ suc n + (d * base ^ n + x) ≡ (value * base + d) * base ^ n + x
moved base value d x n =
    let p = base ^ n in
    let power : base ^ suc n ≡ base * p = pow-succ' base n in
    let whole : value * base ^ suc n ≡ value * (base * p) = ap (λ k. value * k) power in
    omega (arith, whole, add-mul (value * base) d p, mul_assoc value base p)

module _ (base limit value at b : ℕ) (rest whole : List ℕ) where
  pub sums_underscore : (b == 95) ≡ true → SumsFrom base value (b ∷ rest) whole → SumsFrom base value rest whole
  sums_underscore u h ds e = h ds (ap (λ (x : Bool). if x then digits_in base rest else digit_then base (digit_value b) (digits_in base rest)) u ∙ e)

  pub sums_digit : (b == 95) ≡ false → nat_lt (digit_value b) base ≡ true → SumsFrom base value (b ∷ rest) whole → SumsFrom base (value * base + digit_value b) rest whole
  sums_digit u low h ds e =
      let first : digits_in base (b ∷ rest) ≡ digit_then base (digit_value b) (digits_in base rest) = ap (λ (x : Bool). if x then digits_in base rest else digit_then base (digit_value b) (digits_in base rest)) u in
      let second : digit_then base (digit_value b) (digits_in base rest) ≡ option_map (λ xs. digit_value b ∷ xs) (digits_in base rest) = ap (λ (x : Bool). if x then option_map (λ xs. digit_value b ∷ xs) (digits_in base rest) else None) low in
      let third : option_map (λ xs. digit_value b ∷ xs) (digits_in base rest) ≡ Some (digit_value b ∷ ds) = ap (option_map (λ xs. digit_value b ∷ xs)) e in
      let found = h (digit_value b ∷ ds) (first ∙ second ∙ third) in
      (found.0, found.1, found.2 ∙ moved base value (digit_value b) (sum_of_digits base ds) (length ds))

  pub fault_underscore : (b == 95) ≡ true → digit_fault base limit value at (b ∷ rest) ≡ digit_fault base limit value (at + 1) rest
  fault_underscore u = ap (λ (x : Bool). if x then digit_fault base limit value (at + 1) rest else (if nat_lt (digit_value b) base then (if nat_lt limit (value * base + digit_value b) then Some too_large else digit_fault base limit (value * base + digit_value b) (at + 1) rest) else Some (bad_digit at))) u

  fault_counted : (b == 95) ≡ false → digit_fault base limit value at (b ∷ rest) ≡ (if nat_lt (digit_value b) base then (if nat_lt limit (value * base + digit_value b) then Some too_large else digit_fault base limit (value * base + digit_value b) (at + 1) rest) else Some (bad_digit at))
  fault_counted u = ap (λ (x : Bool). if x then digit_fault base limit value (at + 1) rest else (if nat_lt (digit_value b) base then (if nat_lt limit (value * base + digit_value b) then Some too_large else digit_fault base limit (value * base + digit_value b) (at + 1) rest) else Some (bad_digit at))) u

  pub fault_bad : (b == 95) ≡ false → nat_lt (digit_value b) base ≡ false → digit_fault base limit value at (b ∷ rest) ≡ Some (bad_digit at)
  fault_bad u low = fault_counted u ∙ ap (λ (x : Bool). if x then (if nat_lt limit (value * base + digit_value b) then Some too_large else digit_fault base limit (value * base + digit_value b) (at + 1) rest) else Some (bad_digit at)) low

  fault_low : (b == 95) ≡ false → nat_lt (digit_value b) base ≡ true → digit_fault base limit value at (b ∷ rest) ≡ (if nat_lt limit (value * base + digit_value b) then Some too_large else digit_fault base limit (value * base + digit_value b) (at + 1) rest)
  fault_low u low = fault_counted u ∙ ap (λ (x : Bool). if x then (if nat_lt limit (value * base + digit_value b) then Some too_large else digit_fault base limit (value * base + digit_value b) (at + 1) rest) else Some (bad_digit at)) low

  pub fault_large : (b == 95) ≡ false → nat_lt (digit_value b) base ≡ true → nat_lt limit (value * base + digit_value b) ≡ true → digit_fault base limit value at (b ∷ rest) ≡ Some too_large
  fault_large u low large = fault_low u low ∙ ap (λ (x : Bool). if x then Some too_large else digit_fault base limit (value * base + digit_value b) (at + 1) rest) large

  pub fault_digit : (b == 95) ≡ false → nat_lt (digit_value b) base ≡ true → nat_lt limit (value * base + digit_value b) ≡ false → digit_fault base limit value at (b ∷ rest) ≡ digit_fault base limit (value * base + digit_value b) (at + 1) rest
  fault_digit u low small = fault_low u low ∙ ap (λ (x : Bool). if x then Some too_large else digit_fault base limit (value * base + digit_value b) (at + 1) rest) small

-- where no digits are left
pub ended : (base value at : ℕ) (bytes whole : List ℕ) → length bytes ≤ at → SumsFrom base value (drop at bytes) whole → (es : List ℕ) × (digits_in base whole ≡ Some es) × (value ≡ sum_of_digits base es)
ended base value at bytes whole l h =
    let none : drop at bytes ≡ [] = drop_all at bytes l in
    let F : List ℕ → Type 0 = λ x. SumsFrom base value x whole in
    let found = (subst F none h) [] refl in
    let one : base ^ 0 ≡ 1 = pow-zero base in
    let G : ℕ → Type 0 = λ x. sum_of_digits base found.0 ≡ value * x + 0 in
    let same = subst G one found.2 in
    (found.0, found.1, omega (arith, same))

is_less : (a b : ℕ) → a < b → nat_lt a b ≡ true
is_less a b l = elim (nat_lt a b) as (λ x. nat_lt a b ≡ x → nat_lt a b ≡ true) [
  | true ↦ λ e. e
  | false ↦ λ e. absurd (omega (arith, ltb-false a b e, l))
] refl

is_not_less : (a b : ℕ) → b ≤ a → nat_lt a b ≡ false
is_not_less a b l = elim (nat_lt a b) as (λ x. nat_lt a b ≡ x → nat_lt a b ≡ false) [
  | true ↦ λ e. absurd (omega (arith, ltb-true a b e, l))
  | false ↦ λ e. e
] refl

module _ (base limit value at : ℕ) (bytes whole : List ℕ) (within : at < length bytes) where
  abbrev pub Onward : ℕ → Type 0
  Onward next = SumsFrom base next (drop (at + 1) bytes) whole × (digit_fault base limit value at (drop at bytes) ≡ digit_fault base limit next (at + 1) (drop (at + 1) bytes))

  here : drop at bytes ≡ get_or bytes at 0 ∷ drop (at + 1) bytes
  here = drop_more bytes at 0 within

  same : (b : ℕ) → b ≡ 95 → (b == 95) ≡ true
  same b e = grind (arith, e)

  other : (b : ℕ) → (b ≡ 95 → ⊥) → (b == 95) ≡ false
  other b h = elim (b == 95) as (λ x. (b == 95) ≡ x → (b == 95) ≡ false) [
    | true ↦ λ e. absurd (h (grind (arith, e)))
    | false ↦ λ e. e
  ] refl

  pub past_underscore : get_or bytes at 0 ≡ 95 → SumsFrom base value (drop at bytes) whole → Onward value
  past_underscore e h =
      let F : List ℕ → Type 0 = λ x. SumsFrom base value x whole in
      let b = get_or bytes at 0 in
      let rest = drop (at + 1) bytes in
      (sums_underscore base limit value at b rest whole (same b e) (subst F here h), ap (digit_fault base limit value at) here ∙ fault_underscore base limit value at b rest whole (same b e))

  pub past_digit : (digit next : ℕ) → (get_or bytes at 0 ≡ 95 → ⊥) → digit ≡ digit_value (get_or bytes at 0) → digit < base → next ≡ value * base + digit → next ≤ limit → SumsFrom base value (drop at bytes) whole → Onward next
  past_digit digit next u d low n small h =
      let F : List ℕ → Type 0 = λ x. SumsFrom base value x whole in
      let b = get_or bytes at 0 in
      let rest = drop (at + 1) bytes in
      let is : value * base + digit_value b ≡ next = sym (n ∙ ap (λ k. value * base + k) d) in
      let below : nat_lt (digit_value b) base ≡ true = is_less (digit_value b) base (omega (arith, d, low)) in
      let fits : nat_lt limit (value * base + digit_value b) ≡ false = is_not_less limit (value * base + digit_value b) (omega (arith, is, small)) in
      let G : ℕ → Type 0 = λ x. Onward x in
      subst G is (
        sums_digit base limit value at b rest whole (other b u) below (subst F here h),
        ap (digit_fault base limit value at) here ∙ fault_digit base limit value at b rest whole (other b u) below fits,
      )

-- an index with a fault is too large: a digit is wrong only where its value is
pub index_too_large : (text ds : List ℕ) (fault : NumberFault) → digits_in 10 text ≡ Some ds → digit_fault 10 18446744073709551615 0 0 text ≡ Some fault → nat_lt (index_value (digits_in 10 text)) 18446744073709551616 ≡ false
index_too_large text ds fault e f = by_size (nat_lt (sum_of_digits 10 ds) 18446744073709551616) refl
  where
    value : index_value (digits_in 10 text) ≡ sum_of_digits 10 ds
    value = ap index_value e

    none_here : digit_fault 10 18446744073709551615 0 0 text ≡ None → ⊥
    none_here n = absurd (let x : None ≡ Some fault = sym n ∙ f in cc)

    by_size : (b : Bool) → nat_lt (sum_of_digits 10 ds) 18446744073709551616 ≡ b → nat_lt (index_value (digits_in 10 text)) 18446744073709551616 ≡ false
    by_size true h = absurd (none_here (no_digit_fault 10 18446744073709551615 0 0 text ds (omega arith) e (omega (arith, ltb-true (sum_of_digits 10 ds) 18446744073709551616 h))))
    by_size false h = ap (λ (n : ℕ). nat_lt n 18446744073709551616) value ∙ h

-- a wrong digit of a number lies in it
pub offset_within : (s text : List ℕ) (span : Span) (minus : Bool) (fault : DigitFault) (offset : ℕ) → LiesIn s span → text ≡ slice s span → number_fault minus text ≡ Some (fault_of_digits fault) → fault ≡ BadDigit offset → span.m + offset + 1 ≤ span.n
offset_within s text span minus fault offset lies is e same =
    let below = digit_in_number minus text offset (e ∙ ap (λ (f : DigitFault). Some (fault_of_digits f)) same) in
    let size : length text ≡ span.n - span.m = omega (arith, ap length is, lies.ordered, lies.end.0, length-take (span.n - span.m) (drop span.m s), length-drop span.m s) in
    omega (arith, below, size, lies.ordered)
