-- What a character is, by the kind of the token that it begins.
use Rattle.std.proofs.Common.{◌≡◌, ◌≢◌, ℕ, ◌+◌, List, ◌==◌, ◌<◌, Bool, true, false, Option, Some, None, if◌then◌else◌, arith, refl, subst}
use Rattle.std.specs.Char.{is_ascii_digit}
use Rattle.std.proofs.lemmas.Bool.Decides.{nat_tests}
use Rattle.upon_types.specs.declared.types.token.Token.{Token}
use Rattle.upon_types.specs.declared.types.token.Token.TheVariants.{Raw, BeginExpr, EndExpr, BeginBlock, EndBlock, BeginComment, EndComment, OpenBracket, CloseBracket, OpenBrace, CloseBrace, OpenParen, CloseParen, Dot, QuestionDot, Pipe, Comma, Colon, Plus, Minus, Whitespace, Keyword, Ident, Index, Number, String}
use Rattle.upon_language_spec.specs.Words.{is_tag_space, begins_name}
use Rattle.upon_language_spec.specs.Inside.{token_kind, Extent, start_kind}
use Rattle.upon_language_spec.proofs.Computation.Tests.{same_number}

-- what is known of a character that begins a token of this kind
abbrev pub Proper : Token → ℕ → Type 0
Proper Whitespace c = is_tag_space c ≡ true
Proper Index c = is_ascii_digit c ≡ true
Proper Number c = is_ascii_digit c ≡ true
Proper Ident c = begins_name c ≡ true
Proper String c = c ≡ 34
Proper QuestionDot c = c ≡ 63
Proper Keyword c = ⊥
Proper Raw c = ⊥
Proper BeginExpr c = ⊥
Proper EndExpr c = ⊥
Proper BeginBlock c = ⊥
Proper EndBlock c = ⊥
Proper BeginComment c = ⊥
Proper EndComment c = ⊥
Proper t c = c < 128

low : (c d : ℕ) → d < 128 → (c == d) ≡ true → c < 128
low c d small h = grind (arith, nat_tests)

module _ (c : ℕ) where
  abbrev Told : Option Token → Type 0
  Told o = (t : Token) → o ≡ Some t → Proper t c

  told : (t : Token) → Proper t c → Told (Some t)
  told t h u e = let same : t ≡ u = cc in subst (λ x. Proper x c) same h

  told_none : Told None
  told_none t e = absurd (cc)

  by_case : (b : Bool) (o rest : Option Token) → (b ≡ true → Told o) → (b ≡ false → Told rest) → Told (if b then o else rest)
  by_case true o rest h k = h refl
  by_case false o rest h k = k refl

  digit : (in_path : Bool) → is_ascii_digit c ≡ true → Told (Some (if in_path then Index else Number))
  digit true h = told Index h
  digit false h = told Number h

  pub proper_kind : (in_path : Bool) → Told (token_kind in_path c)
  proper_kind in_path =
      by_case (is_tag_space c) _ _ (told Whitespace) (λ _.
      by_case (c == 46) _ _ (λ h. told Dot (low c 46 (omega arith) h)) (λ _.
      by_case (c == 63) _ _ (λ h. told QuestionDot (same_number c 63 h)) (λ _.
      by_case (c == 124) _ _ (λ h. told Pipe (low c 124 (omega arith) h)) (λ _.
      by_case (c == 44) _ _ (λ h. told Comma (low c 44 (omega arith) h)) (λ _.
      by_case (c == 58) _ _ (λ h. told Colon (low c 58 (omega arith) h)) (λ _.
      by_case (c == 43) _ _ (λ h. told Plus (low c 43 (omega arith) h)) (λ _.
      by_case (c == 45) _ _ (λ h. told Minus (low c 45 (omega arith) h)) (λ _.
      by_case (c == 91) _ _ (λ h. told OpenBracket (low c 91 (omega arith) h)) (λ _.
      by_case (c == 93) _ _ (λ h. told CloseBracket (low c 93 (omega arith) h)) (λ _.
      by_case (c == 123) _ _ (λ h. told OpenBrace (low c 123 (omega arith) h)) (λ _.
      by_case (c == 125) _ _ (λ h. told CloseBrace (low c 125 (omega arith) h)) (λ _.
      by_case (c == 40) _ _ (λ h. told OpenParen (low c 40 (omega arith) h)) (λ _.
      by_case (c == 41) _ _ (λ h. told CloseParen (low c 41 (omega arith) h)) (λ _.
      by_case (c == 34) _ _ (λ h. told String (same_number c 34 h)) (λ _.
      by_case (is_ascii_digit c) _ _ (digit in_path) (λ _.
      by_case (begins_name c) _ _ (told Ident) (λ _. told_none)))))))))))))))))

-- a token of one character: how far it goes
pub record IsSingle (s : List ℕ) (m c : ℕ) (t : Token) : Type 0 where
  pub ascii : c < 128
  pub as_itself : t ≡ start_kind t
  pub extent : Extent s t m (m + 1)

module _ (s : List ℕ) (m c : ℕ) where
  pub single : (t : Token) → Proper t c → t ≢ Whitespace → t ≢ Index → t ≢ Number → t ≢ Ident → t ≢ String → t ≢ QuestionDot → IsSingle s m c t
  single Whitespace p h i j k l n = absurd (h refl)
  single Index p h i j k l n = absurd (i refl)
  single Number p h i j k l n = absurd (j refl)
  single Ident p h i j k l n = absurd (k refl)
  single String p h i j k l n = absurd (l refl)
  single QuestionDot p h i j k l n = absurd (n refl)
  single Keyword p h i j k l n = absurd p
  single Raw p h i j k l n = absurd p
  single BeginExpr p h i j k l n = absurd p
  single EndExpr p h i j k l n = absurd p
  single BeginBlock p h i j k l n = absurd p
  single EndBlock p h i j k l n = absurd p
  single BeginComment p h i j k l n = absurd p
  single EndComment p h i j k l n = absurd p
  single t p h i j k l n = record { ascii = p; as_itself = refl; extent = refl }
