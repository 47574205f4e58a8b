-- What a byte of ASCII at an offset begins inside a tag.
use Rattle.std.proofs.Common.{◌≡◌, ◌≢◌, ◌⊎◌, inl, inr, ℕ, ◌+◌, ◌<◌, ◌==◌, List, [], ◌∷◌, length, drop, get_or, Bool, true, false, Option, Some, IfSome, if◌then◌else◌, encode_utf8, arith, lit<, refl, sym, ap, ◌∙◌, subst}
use Rattle.std.specs.Char.{is_ascii_digit}
use Rattle.std.specs.Str.{IsUtf8, IsCharBoundary}
use Rattle.std.proofs.lemmas.Bool.Decides.{nat_tests}
use Rattle.std.proofs.lemmas.List.{drop_more}
use Rattle.unicode_ident.specs.Ident.{is_xid_continue}
use Rattle.unicode_ident.proofs.IdentLemmas.{is_xid_start-ascii}
use Rattle.upon_types.specs.Span.{LiesIn}
use Rattle.upon_types.specs.declared.types.token.Token.{Token}
use Rattle.upon_types.specs.declared.types.token.Token.TheVariants.{Dot, Pipe, Comma, Colon, Whitespace, Ident}
use Rattle.upon_language_spec.specs.Cut.{Lexeme, Mode, IsToken}
use Rattle.upon_language_spec.specs.Inside.{token_kind, start_kind, Extent}
use Rattle.upon_language_spec.specs.LexStep.{BracketsFit}
use Rattle.upon_language_spec.specs.Search.{DelimiterText, Occurs, NoneAt}
use Rattle.upon_language_spec.specs.Words.{IsRun, begins_name, is_tag_space}
use Rattle.upon_language_spec.proofs.Computation.Tests.{same_number}
use Rattle.upon_language_spec.proofs.Offsets.Bytes.{byte_as_char, behind_byte}
use Rattle.upon_language_spec.proofs.Offsets.Names.{begins_continues}
use Rattle.upon_language_spec.proofs.Offsets.Runs.{some_run}
use Rattle.upon_language_spec.proofs.SpansLieIn.Offsets.{Occurs-from_drop}
use Rattle.upon_lexer.specs.OpenTags.{mode_in, mode_of}
use Rattle.upon_lexer.specs.Plain.{IsLetter, IsPlain, byte_token}
use Rattle.upon_lexer.specs.declared.compile.roles.Sort.{Sort}
use Rattle.upon_lexer.specs.declared.compile.roles.Sort.TheVariants.{Expr, Block, Comment}
use Rattle.upon_lexer.specs.declared.compile.tags.OpenTag.{OpenTag}

by_case : {X : Type 0} (P : X → Type 0) (t : Bool) (x y : X) → (t ≡ true → P x) → (t ≡ false → P y) → P (if t then x else y)
by_case P true x y h k = h refl
by_case P false x y h k = k refl

-- a test that fails, and one that passes
skip : {X : Type 0} (t : Bool) (x y z : X) → t ≡ false → y ≡ z → (if t then x else y) ≡ z
skip t x y z fails e = ap (λ b. if b then x else y) fails ∙ e

take_if : {X : Type 0} (t : Bool) (x y : X) → t ≡ true → (if t then x else y) ≡ x
take_if t x y passes = ap (λ b. if b then x else y) passes

-- a byte is the whole token of a kind
pub record IsMark (b : ℕ) (t : Token) : Type 0 where
  pub low : b < 128
  pub kind : (in_path : Bool) → token_kind in_path b ≡ Some (start_kind t)
  pub extent : (s : List ℕ) (m : ℕ) → Extent s t m (m + 1)
  pub fits : (brackets : List Lexeme) → BracketsFit brackets t

abbrev Marked : ℕ → Option Token → Type 0
Marked b found = IfSome found (IsMark b)

as_mark : (b d : ℕ) (t : Token) → IsMark d t → (b == d) ≡ true → IsMark b t
as_mark b d t h e = subst (λ x. IsMark x t) (sym (same_number b d e)) h

marked : (b : ℕ) → Marked b (byte_token b)
marked b =
    by_case (Marked b) (b == 46) _ _ (λ e. as_mark b 46 Dot (record { low = lit< tt; kind = λ p. refl; extent = λ s m. refl; fits = λ brackets. tt }) e) (λ _.
    by_case (Marked b) (b == 124) _ _ (λ e. as_mark b 124 Pipe (record { low = lit< tt; kind = λ p. refl; extent = λ s m. refl; fits = λ brackets. tt }) e) (λ _.
    by_case (Marked b) (b == 44) _ _ (λ e. as_mark b 44 Comma (record { low = lit< tt; kind = λ p. refl; extent = λ s m. refl; fits = λ brackets. tt }) e) (λ _.
    by_case (Marked b) (b == 58) _ _ (λ e. as_mark b 58 Colon (record { low = lit< tt; kind = λ p. refl; extent = λ s m. refl; fits = λ brackets. tt }) e) (λ _. tt))))

low_letter : (b : ℕ) → IsLetter b → b < 128
low_letter b (inl small) = omega (arith, small)
low_letter b (inr (inl large)) = omega (arith, large)
low_letter b (inr (inr line)) = omega (arith, line)

letter_begins : (b : ℕ) → IsLetter b → begins_name b ≡ true
letter_begins b (inl small) = let e = is_xid_start-ascii b (omega (arith, small)) in grind (arith, nat_tests, e, small)
letter_begins b (inr (inl large)) = let e = is_xid_start-ascii b (omega (arith, large)) in grind (arith, nat_tests, e, large)
letter_begins b (inr (inr line)) = grind (arith, nat_tests, line)

differs : (b d : ℕ) → b ≢ d → (b == d) ≡ false
differs b d h = grind (arith, nat_tests, h)

no_space : (b : ℕ) → IsLetter b → is_tag_space b ≡ false
no_space b (inl small) = grind (arith, nat_tests, small)
no_space b (inr (inl large)) = grind (arith, nat_tests, large)
no_space b (inr (inr line)) = grind (arith, nat_tests, line)

no_digit : (b : ℕ) → IsLetter b → is_ascii_digit b ≡ false
no_digit b (inl small) = grind (arith, nat_tests, small)
no_digit b (inr (inl large)) = grind (arith, nat_tests, large)
no_digit b (inr (inr line)) = grind (arith, nat_tests, line)

-- a number that no letter is
abbrev IsOther : ℕ → Type 0
IsOther d = (IsLetter d → ⊥)

out : (d : ℕ) → (d < 65) ⊎ ((90 < d) × (d < 95)) ⊎ (122 < d) → IsOther d
out d (inl below) (inl small) = omega (arith, below, small)
out d (inl below) (inr (inl large)) = omega (arith, below, large)
out d (inl below) (inr (inr line)) = omega (arith, below, line)
out d (inr (inl between)) (inl small) = omega (arith, between, small)
out d (inr (inl between)) (inr (inl large)) = omega (arith, between, large)
out d (inr (inl between)) (inr (inr line)) = omega (arith, between, line)
out d (inr (inr above)) (inl small) = omega (arith, above, small)
out d (inr (inr above)) (inr (inl large)) = omega (arith, above, large)
out d (inr (inr above)) (inr (inr line)) = omega (arith, above, line)

no_letter : (b d : ℕ) → IsLetter b → IsOther d → (b == d) ≡ false
no_letter b d h other = differs b d (λ e. other (subst IsLetter e h))

letter_kind : (in_path : Bool) (b : ℕ) → IsLetter b → token_kind in_path b ≡ Some Ident
letter_kind in_path b h =
    skip (is_tag_space b) _ _ _ (no_space b h)
    (skip (b == 46) _ _ _ (no_letter b 46 h (out 46 (inl (lit< tt))))
    (skip (b == 63) _ _ _ (no_letter b 63 h (out 63 (inl (lit< tt))))
    (skip (b == 124) _ _ _ (no_letter b 124 h (out 124 (inr (inr (lit< tt)))))
    (skip (b == 44) _ _ _ (no_letter b 44 h (out 44 (inl (lit< tt))))
    (skip (b == 58) _ _ _ (no_letter b 58 h (out 58 (inl (lit< tt))))
    (skip (b == 43) _ _ _ (no_letter b 43 h (out 43 (inl (lit< tt))))
    (skip (b == 45) _ _ _ (no_letter b 45 h (out 45 (inl (lit< tt))))
    (skip (b == 91) _ _ _ (no_letter b 91 h (out 91 (inr (inl (lit< tt, lit< tt)))))
    (skip (b == 93) _ _ _ (no_letter b 93 h (out 93 (inr (inl (lit< tt, lit< tt)))))
    (skip (b == 123) _ _ _ (no_letter b 123 h (out 123 (inr (inr (lit< tt)))))
    (skip (b == 125) _ _ _ (no_letter b 125 h (out 125 (inr (inr (lit< tt)))))
    (skip (b == 40) _ _ _ (no_letter b 40 h (out 40 (inl (lit< tt))))
    (skip (b == 41) _ _ _ (no_letter b 41 h (out 41 (inl (lit< tt))))
    (skip (b == 34) _ _ _ (no_letter b 34 h (out 34 (inl (lit< tt))))
    (skip (is_ascii_digit b) _ _ _ (no_digit b h)
    (take_if (begins_name b) _ _ (letter_begins b h)))))))))))))))))

-- a byte of ASCII at an offset is the character there
module _ (s : List ℕ) (at b : ℕ) (inside : at < length s) (is : b ≡ get_or s at 0) (low : b < 128) where
  byte_there : Occurs s at (b ∷ [])
  byte_there = Occurs-from_drop s at (b ∷ []) (drop (at + 1) s) (drop_more s at 0 inside ∙ ap (λ x. x ∷ drop (at + 1) s) (sym is))

  pub char_there : Occurs s at (encode_utf8 b)
  char_there = byte_as_char s at b low byte_there

  pub boundary_behind : IsUtf8 s → IsCharBoundary s at → IsCharBoundary s (at + 1)
  boundary_behind utf8 start = behind_byte s at b low utf8 start byte_there

module _ (s : List ℕ) (at b : ℕ) (inside : at < length s) (is : b ≡ get_or s at 0) (utf8 : IsUtf8 s) (start : IsCharBoundary s at) where
  pub mark_is_plain : (t : Token) → Some t ≡ byte_token b → IsPlain s t at (at + 1)
  mark_is_plain t e =
      let mark : IsMark b t = subst (Marked b) (sym e) (marked b) in
      record {
        begins = λ in_path. record { first = b; occurs = char_there s at b inside is mark.low; of_kind = mark.kind in_path; extent = mark.extent s at };
        fits = mark.fits;
        span = record { ordered = omega arith; start = start; end = boundary_behind s at b inside is mark.low utf8 start };
      }

  low_space : is_tag_space b ≡ true → b < 128
  low_space h = grind (arith, nat_tests, h)

  pub spaces_are_plain : (end : ℕ) → is_tag_space b ≡ true → (end ≡ at) ⊎ IsRun is_tag_space s at end → ((c : ℕ) → Occurs s end (encode_utf8 c) → is_tag_space c ≡ false)
      → LiesIn s (record { m = at; n = end }) → IsPlain s Whitespace at end
  spaces_are_plain end h run longest span =
      let here = char_there s at b inside is (low_space h) in
      record {
        begins = λ in_path. record { first = b; occurs = here; of_kind = take_if (is_tag_space b) _ _ h; extent = some_run is_tag_space s at end run longest b here h };
        fits = λ brackets. tt;
        span = span;
      }

  pub word_runs : (end : ℕ) → IsLetter b → (end ≡ at) ⊎ IsRun is_xid_continue s at end → ((c : ℕ) → Occurs s end (encode_utf8 c) → is_xid_continue c ≡ false) → IsRun is_xid_continue s at end
  word_runs end h run longest = some_run is_xid_continue s at end run longest b (char_there s at b inside is (low_letter b h)) (begins_continues b (letter_begins b h))

  pub word_is_plain : (end : ℕ) (t : Token) → IsLetter b → start_kind t ≡ Ident → Extent s t at end → ((brackets : List Lexeme) → BracketsFit brackets t)
      → LiesIn s (record { m = at; n = end }) → IsPlain s t at end
  word_is_plain end t h kind extent fits span = record {
    begins = λ in_path. record { first = b; occurs = char_there s at b inside is (low_letter b h); of_kind = letter_kind in_path b h ∙ ap Some (sym kind); extent = extent };
    fits = fits;
    span = span;
  }

-- in a tag that is no comment, a plain token is the token where no delimiter is
pub plain_step : (delimiters : List DelimiterText) (s : List ℕ) (open_tag : Option OpenTag) (tag : OpenTag) (t : Token) (m n : ℕ) → open_tag ≡ Some tag → (tag.sort ≡ Comment → ⊥)
    → NoneAt delimiters s m → IsPlain s t m n → IsToken delimiters s (mode_of open_tag) t false m n
plain_step delimiters s open_tag tag t m n is no_comment bare plain =
    let At : Mode → Type 0 = λ mode. IsToken delimiters s mode t false m n in
    subst At (sym (ap mode_of is)) (in_sort tag.sort tag.in_path no_comment)
  where
    in_sort : (sort : Sort) (in_path : Bool) → (sort ≡ Comment → ⊥) → IsToken delimiters s (mode_in sort in_path) t false m n
    in_sort Expr in_path no_comment = let begun = plain.begins in_path in inr (refl, record { bare = bare; first = begun.first; occurs = begun.occurs; of_kind = begun.of_kind; extent = begun.extent })
    in_sort Block in_path no_comment = let begun = plain.begins in_path in inr (refl, record { bare = bare; first = begun.first; occurs = begun.occurs; of_kind = begun.of_kind; extent = begun.extent })
    in_sort Comment in_path no_comment = absurd (no_comment refl)
