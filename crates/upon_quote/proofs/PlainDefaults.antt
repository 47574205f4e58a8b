-- What the default formatter writes for anything but a text has no character that a language escapes.
use Rattle.std.proofs.Common.{◌≡◌, ◌<◌, ℕ, zero, suc, ◌+◌, ◌/◌, ◌%◌, List, [], ◌∷◌, ◌++◌, Bool, true, false, ◌==◌, if◌then◌else◌, ℤ, pos, negsuc, None, get_or, codes, refl, sym, subst, ap, ◌∙◌, eqb, arith, mod-lt}
use Rattle.std.proofs.lemmas.Bool.{eqb-false, lt-ltb}
use Rattle.std.proofs.lemmas.Str.{chars-IsAscii, encode_ascii}
use Rattle.std.specs.Fmt.{digits_onto, digits, digit_glyph, decimal, signed_decimal}
use Rattle.std.specs.Str.{IsAscii}
use Rattle.upon_types.specs.Val.{Val, none_val, bool_val, int_val, text_val, list_val, map_val}
use Rattle.upon_meaning_spec.specs.DefaultFormat.{default_format}
use Rattle.upon_quote.specs.Quoted.{Escapes}
use Rattle.upon_quote.specs.Shell.{has_nul}
use Rattle.upon_quote.specs.Tokens.{bytes_or_itself, bytes_by, quoted_bytes}
use Rattle.upon_quote.proofs.QuoteLemmas.{Each, NoneOf, listed}

-- a character of ASCII that is not U+0000 and that a language does not escape
abbrev pub IsPlain : Escapes → ℕ → Type 0
IsPlain escape_of c = (escape_of c ≡ None) × (c < 128) × (eqb c 0 ≡ false)

-- a language that escapes no digit, no sign and none of the letters of `true` and `false`
pub record LeavesDefaults (escape_of : Escapes) : Type 0 where
  pub digit : (d : ℕ) → d < 10 → escape_of (48 + d) ≡ None
  pub minus : escape_of 45 ≡ None
  pub true_word : Each (λ c. escape_of c ≡ None) (codes "true")
  pub false_word : Each (λ c. escape_of c ≡ None) (codes "false")

-- all but a text
abbrev pub NotText : Val → Type 0
NotText (text_val s) = ⊥
NotText none_val = Unit {0}
NotText (bool_val b) = Unit {0}
NotText (int_val z) = Unit {0}
NotText (list_val vs) = Unit {0}
NotText (map_val es) = Unit {0}

-- a value that denotes no text
pub by_view : (v w : Val) → v ≡ w → NotText w → NotText v
by_view v w e h = subst NotText (sym e) h

-- what holds below ten
no_digit : (d : ℕ) → d < 10 → NoneOf (0 ∷ 1 ∷ 2 ∷ 3 ∷ 4 ∷ 5 ∷ 6 ∷ 7 ∷ 8 ∷ 9 ∷ []) d → ⊥
no_digit d h (n0, (n1, (n2, (n3, (n4, (n5, (n6, (n7, (n8, (n9, u)))))))))) =
    omega (arith, eqb-false d 0 n0, eqb-false d 1 n1, eqb-false d 2 n2, eqb-false d 3 n3, eqb-false d 4 n4, eqb-false d 5 n5, eqb-false d 6 n6, eqb-false d 7 n7, eqb-false d 8 n8, eqb-false d 9 n9)

pub below_ten : (P : ℕ → Type 0) → Each P (0 ∷ 1 ∷ 2 ∷ 3 ∷ 4 ∷ 5 ∷ 6 ∷ 7 ∷ 8 ∷ 9 ∷ []) → (d : ℕ) → d < 10 → P d
below_ten P here d h = listed P (0 ∷ 1 ∷ 2 ∷ 3 ∷ 4 ∷ 5 ∷ 6 ∷ 7 ∷ 8 ∷ 9 ∷ []) here d (λ others. absurd (no_digit d h others))

module _ (escape_of : Escapes) (leaves : LeavesDefaults escape_of) where
  abbrev Plain : List ℕ → Type 0
  Plain text = Each (IsPlain escape_of) text

  letters : (text : List ℕ) → Each (λ c. escape_of c ≡ None) text → Each (λ c. (c < 128) × (eqb c 0 ≡ false)) text → Plain text
  letters [] h k = tt
  letters (c ∷ cs) h k = ((h.0, k.0.0, k.0.1), letters cs h.1 k.1)

  nonzero : (d : ℕ) → d < 10 → eqb (48 + d) 0 ≡ false
  nonzero d h = below_ten (λ d. eqb (48 + d) 0 ≡ false) (refl, (refl, (refl, (refl, (refl, (refl, (refl, (refl, (refl, (refl, tt)))))))))) d h

  plain_digit : (d : ℕ) → d < 10 → IsPlain escape_of (digit_glyph false d)
  plain_digit d h = rw (lt-ltb d 10 h) (leaves.digit d h, omega arith, nonzero d h)

  either : (x : Bool) (a b : List ℕ) → Plain a → Plain b → Plain (if x then a else b)
  either true a b h k = h
  either false a b h k = k

  plain_digits : (k n : ℕ) (acc : List ℕ) → Plain acc → Plain (digits_onto k 10 false n acc)
  plain_digits zero n acc h = h
  plain_digits (suc k) n acc h =
      let digit = plain_digit (n % 10) (mod-lt n (omega arith)) in
      either (n / 10 == 0) _ _ (digit, h) (plain_digits k (n / 10) (digit_glyph false (n % 10) ∷ acc) (digit, h))

  plain_decimal : (n : ℕ) → Plain (decimal n)
  unfolding digits
  plain_decimal n = plain_digits 64 n [] tt

  plain_integer : (z : ℤ) → Plain (signed_decimal z)
  plain_integer (pos n) = plain_decimal n
  plain_integer (negsuc n) = ((leaves.minus, omega arith, refl), plain_decimal (suc n))

  plain_bool : (b : Bool) → Plain (default_format (bool_val b)).text
  plain_bool true = letters (codes "true") leaves.true_word ((omega arith, refl), ((omega arith, refl), ((omega arith, refl), ((omega arith, refl), tt))))
  plain_bool false = letters (codes "false") leaves.false_word ((omega arith, refl), ((omega arith, refl), ((omega arith, refl), ((omega arith, refl), ((omega arith, refl), tt)))))

  -- the text of all but a text
  plain_value : (v : Val) → NotText v → Plain (default_format v).text
  plain_value none_val h = tt
  plain_value (bool_val b) h = plain_bool b
  plain_value (int_val z) h = plain_integer z
  plain_value (text_val s) h = absurd h
  plain_value (list_val vs) h = tt
  plain_value (map_val es) h = tt

  ascii : (text : List ℕ) → Plain text → IsAscii text
  ascii [] h = λ i. omega arith
  ascii (c ∷ cs) h = λ i. elim i as (λ i. get_or (c ∷ cs) i 0 < 128) [ zero ↦ h.0.1 | suc i ↦ ascii cs h.1 i ]

  itself : (text : List ℕ) → Plain text → bytes_by escape_of text ≡ text
  itself [] h = refl
  itself (c ∷ cs) h =
      ap (λ r. bytes_or_itself r c ++ bytes_by escape_of cs) h.0.0
      ∙ (ap (λ t. t ++ bytes_by escape_of cs) (encode_ascii c h.0.1)
      ∙ ap (λ t. c ∷ t) (itself cs h.1))

  nul : (text : List ℕ) → Plain text → has_nul text ≡ false
  nul [] h = refl
  nul (c ∷ cs) h = rw h.0.2 (nul cs h.1)

  pub quoted_default : (v : Val) → NotText v → quoted_bytes escape_of (default_format v).text ≡ (default_format v).text
  quoted_default v h =
      let text = (default_format v).text in
      let plain = plain_value v h in
      ap (bytes_by escape_of) (chars-IsAscii text (ascii text plain)) ∙ itself text plain

  pub no_nul_default : (v : Val) → NotText v → has_nul (default_format v).text ≡ false
  no_nul_default v h = nul (default_format v).text (plain_value v h)
