-- The token where a lexer is, is spelled as its kind says.
use Rattle.std.proofs.Common.{◌≡◌, ℕ, List, Bool, true, false, inl, inr, refl, sym, ap, ◌∙◌, subst}
use Rattle.upon_types.specs.declared.types.Span.{Span}
use Rattle.upon_types.specs.declared.types.token.Token.{Token}
use Rattle.upon_types.specs.declared.types.token.Token.TheVariants.{Raw, Index, Number, String}
use Rattle.upon_language_spec.specs.Search.{DelimiterText}
use Rattle.upon_language_spec.specs.Delimiters.{Sort, expression, block, comment, begin_token, end_token}
use Rattle.upon_language_spec.specs.Cut.{Mode, outside, in_tag, in_comment, IsToken}
use Rattle.upon_language_spec.specs.Inside.{Extent}
use Rattle.upon_language_spec.specs.Faults.{span_of}
use Rattle.upon_language_spec.specs.Tokens.{is_raw}
use Rattle.upon_language_spec.specs.Lexing.{IsGiven}
use Rattle.upon_lexer.specs.Spelling.{IsSpelled}

-- whether a token has a spelling of its own
abbrev has_spelling : Token → Bool
has_spelling Index = true
has_spelling String = true
has_spelling Number = true
has_spelling t = false

plain : (s : List ℕ) (t : Token) (span : Span) → has_spelling t ≡ false → IsSpelled s t span
plain s t span none = record {
  quoted = λ e. let x : has_spelling t ≡ true = ap has_spelling e in absurd (cc);
  digits = λ e. let x : has_spelling t ≡ true = ap has_spelling e in absurd (cc);
  number = λ e. let x : has_spelling t ≡ true = ap has_spelling e in absurd (cc);
}

begin_is_plain : (sort : Sort) → has_spelling (begin_token sort) ≡ false
begin_is_plain expression = refl
begin_is_plain block = refl
begin_is_plain comment = refl

end_is_plain : (sort : Sort) → has_spelling (end_token sort) ≡ false
end_is_plain expression = refl
end_is_plain block = refl
end_is_plain comment = refl

by_extent : (s : List ℕ) (t : Token) (m n : ℕ) → Extent s t m n → IsSpelled s t (span_of m n)
by_extent s t m n extent = record {
  quoted = λ e. let F : Token → Type 0 = λ u. Extent s u m n in subst F e extent;
  digits = λ e. let F : Token → Type 0 = λ u. Extent s u m n in subst F e extent;
  number = λ e. let F : Token → Type 0 = λ u. Extent s u m n in subst F e extent;
}

module _ (delimiters : List DelimiterText) (s : List ℕ) where
  pub spelled : (mode : Mode) (t : Token) (hyphen : Bool) (m n : ℕ) → IsToken delimiters s mode t hyphen m n → IsSpelled s t (span_of m n)
  spelled outside t hyphen m n (inl raw) = plain s t (span_of m n) (ap has_spelling raw.0)
  spelled outside t hyphen m n (inr begin) = plain s t (span_of m n) (ap has_spelling begin.1 ∙ begin_is_plain begin.0)
  spelled (in_tag sort path) t hyphen m n (inl end) = plain s t (span_of m n) (ap has_spelling end.0 ∙ end_is_plain sort)
  spelled (in_tag sort path) t hyphen m n (inr inner) = by_extent s t m n inner.1.extent
  spelled in_comment t hyphen m n (inl raw) = plain s t (span_of m n) (ap has_spelling raw.0)
  spelled in_comment t hyphen m n (inr end) = plain s t (span_of m n) (ap has_spelling end.0 ∙ end_is_plain comment)

  -- what is no raw part is given as it is
  pub given_same : (mode : Mode) (trims : Bool) (t : Token) (span given : Span) → is_raw t ≡ false → IsGiven delimiters s mode trims t span given → given ≡ span
  given_same outside trims Raw span given e h = absurd cc
  given_same mode trims t span given e h = h

  by_kind : (mode : Mode) (trims : Bool) (t : Token) (span given : Span) (raw : Bool) → is_raw t ≡ raw → IsGiven delimiters s mode trims t span given → IsSpelled s t span → IsSpelled s t given
  by_kind mode trims t span given true e h x = plain s t given (raw_is_plain t e)
    where
      raw_is_plain : (u : Token) → is_raw u ≡ true → has_spelling u ≡ false
      raw_is_plain Raw e = refl
      raw_is_plain u e = absurd cc
  by_kind mode trims t span given false e h x = let F : Span → Type 0 = λ y. IsSpelled s t y in subst F (sym (given_same mode trims t span given e h)) x

  pub given_spelled : (mode : Mode) (trims : Bool) (t : Token) (span given : Span) → IsGiven delimiters s mode trims t span given → IsSpelled s t span → IsSpelled s t given
  given_spelled mode trims t span given h x = by_kind mode trims t span given (is_raw t) refl h x
