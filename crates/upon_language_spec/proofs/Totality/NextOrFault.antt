-- At each span that a UTF-8 text reads to: its end, a fault that ends the cutting, or a token that fits the open brackets.
use Rattle.std.proofs.Common.{◌≡◌, ◌⊎◌, inl, inr, ℕ, zero, suc, ◌+◌, ◌-◌, ◌<◌, nat_lt, List, [], ◌∷◌, ◌++◌, length, length-drop, Bool, true, false, Some, None, refl, sym, ap, ◌∙◌, subst, arith, codes}
use Rattle.std.specs.Str.{IsUtf8, IsCharBoundary}
use Rattle.std.proofs.lemmas.Str.{IsUtf8-drop, IsCharBoundary-start}
use Rattle.upon_types.specs.declared.types.Span.{Span}
use Rattle.upon_types.specs.declared.types.Delimiter.{Delimiter}
use Rattle.upon_types.specs.declared.types.Delimiter.TheVariants as mark
use Rattle.upon_types.specs.declared.types.token.Token.{Token}
use Rattle.upon_types.specs.declared.types.token.Token.TheVariants.{Raw, EndExpr, EndBlock, EndComment, CloseBracket, CloseBrace, CloseParen}
use Rattle.upon_types.specs.Token.{token_word}
use Rattle.upon_language_spec.specs.Search.{DelimiterText, HasTexts, NoneAt, NoneFrom, IsBestDelimiter}
use Rattle.upon_language_spec.specs.LiesIn.{HasUtf8}
use Rattle.upon_language_spec.specs.Raw.{IsRaw}
use Rattle.upon_language_spec.specs.Delimiters.{Sort, expression, block, comment, begin_sort, end_sort, has_hyphen, begin_token, end_token}
use Rattle.upon_language_spec.specs.Cut.{Lexeme, Mode, outside, in_tag, in_comment, IsToken}
use Rattle.upon_language_spec.proofs.SpansLieIn.Cut.{cut_lies_from}
use Rattle.upon_language_spec.specs.Inside.{IsInside}
use Rattle.upon_language_spec.specs.InsideStart.{BeginsInside, NoInside}
use Rattle.upon_language_spec.specs.InTags.{is_inside}
use Rattle.upon_language_spec.proofs.NoTreeWithFault.InsideTag.{extent_is_inside}
use Rattle.upon_language_spec.specs.Reading.{ReadsTo, open_brackets}
use Rattle.upon_language_spec.specs.Faults.{span_of, awaited_sort, is_close, closes_first}
use Rattle.upon_language_spec.specs.FirstFault.{IsFirstFault}
use Rattle.upon_language_spec.specs.Lexing.{begin_in, brackets_in}
use Rattle.upon_language_spec.specs.LexStep.{BracketsFit, IsWrong}
use Rattle.upon_language_spec.proofs.Offsets.LexFaults.{wrong_end, wrong_begin, wrong_bracket, wrong_close, wrong_inside}
use Rattle.upon_language_spec.proofs.Totality.First.{left_at, has_read, cut_fault_is_first}
use Rattle.upon_language_spec.specs.Stages.{Stage}
use Rattle.upon_language_spec.proofs.Totality.Stage.{clear_so_far}
use Rattle.upon_language_spec.proofs.Totality.SomethingOccurs.{delimiter_at, inner_at, Spelled}

pub record Next (delimiters : List DelimiterText) (s : List ℕ) (ls : List Lexeme) (mode : Mode) (p : ℕ) : Type 0 where
  pub t : Token
  pub hyphen : Bool
  pub to : ℕ
  pub step : IsToken delimiters s mode t hyphen p to
  pub fits : BracketsFit (brackets_in mode ls) t

-- a token begins there, delimiters aside, or none
abbrev InnerAt : List ℕ → Bool → ℕ → Type 0
InnerAt s path m = ((t : Token) × (n : ℕ) × BeginsInside s path t m n) ⊎ ((place : Span) × (reason : List ℕ) × NoInside s path m place reason)

same_sort : (a b : Sort) → (a ≡ b) ⊎ (Some a ≡ Some b → ⊥)
same_sort expression expression = inl refl
same_sort expression block = inr (λ e. cc)
same_sort expression comment = inr (λ e. cc)
same_sort block expression = inr (λ e. cc)
same_sort block block = inl refl
same_sort block comment = inr (λ e. cc)
same_sort comment expression = inr (λ e. cc)
same_sort comment block = inr (λ e. cc)
same_sort comment comment = inl refl

-- each delimiter begins a sort or ends one
edge : (kind : Delimiter) → ((sort : Sort) × (begin_sort kind ≡ Some sort)) ⊎ ((sort : Sort) × (end_sort kind ≡ Some sort))
edge mark.BeginExpr = inl (expression, refl)
edge mark.BeginExprTrim = inl (expression, refl)
edge mark.BeginBlock = inl (block, refl)
edge mark.BeginBlockTrim = inl (block, refl)
edge mark.BeginComment = inl (comment, refl)
edge mark.BeginCommentTrim = inl (comment, refl)
edge mark.EndExpr = inr (expression, refl)
edge mark.EndExprTrim = inr (expression, refl)
edge mark.EndBlock = inr (block, refl)
edge mark.EndBlockTrim = inr (block, refl)
edge mark.EndComment = inr (comment, refl)
edge mark.EndCommentTrim = inr (comment, refl)

begin_fits : (sort : Sort) (brackets : List Lexeme) → BracketsFit brackets (begin_token sort)
begin_fits expression brackets = tt
begin_fits block brackets = tt
begin_fits comment brackets = tt

pub end_fits : (sort : Sort) (brackets : List Lexeme) → brackets ≡ [] → BracketsFit brackets (end_token sort)
end_fits expression brackets e = e
end_fits block brackets e = e
end_fits comment brackets e = e

-- a token inside a tag fits, or closes another bracket than the innermost
closing : (t : Token) (brackets : List Lexeme) → is_inside t ≡ true → BracketsFit brackets t ⊎ ((is_close t ≡ true) × (closes_first brackets t ≡ false))
closing CloseBracket brackets h = by_test (closes_first brackets CloseBracket) refl
  where
    by_test : (b : Bool) → closes_first brackets CloseBracket ≡ b → BracketsFit brackets CloseBracket ⊎ ((true ≡ true) × (closes_first brackets CloseBracket ≡ false))
    by_test true e = inl e
    by_test false e = inr (refl, e)
closing CloseBrace brackets h = by_test (closes_first brackets CloseBrace) refl
  where
    by_test : (b : Bool) → closes_first brackets CloseBrace ≡ b → BracketsFit brackets CloseBrace ⊎ ((true ≡ true) × (closes_first brackets CloseBrace ≡ false))
    by_test true e = inl e
    by_test false e = inr (refl, e)
closing CloseParen brackets h = by_test (closes_first brackets CloseParen) refl
  where
    by_test : (b : Bool) → closes_first brackets CloseParen ≡ b → BracketsFit brackets CloseParen ⊎ ((true ≡ true) × (closes_first brackets CloseParen ≡ false))
    by_test true e = inl e
    by_test false e = inr (refl, e)
closing EndExpr brackets h = absurd cc
closing EndBlock brackets h = absurd cc
closing EndComment brackets h = absurd cc
closing t brackets h = inl tt

module _ (delimiters : List DelimiterText) (s : List ℕ) (texts : HasTexts delimiters) (utf8 : HasUtf8 delimiters) (text : IsUtf8 s) where
  -- a raw part
  raw_from : (p k q : ℕ) → q + k ≡ length s → p < q → NoneFrom delimiters s p q → (n : ℕ) × IsRaw delimiters s p n
  raw_from p zero q e l none = (q, record { some = l; within = omega (arith, e); bare = none; ends = inl (omega (arith, e)) })
  raw_from p (suc k) q e l none = by_delimiter (delimiter_at delimiters s q) (λ h. raw_from p k (q + 1) (omega (arith, e)) (omega (arith, l)) (more h))
    where
      more : NoneAt delimiters s q → NoneFrom delimiters s p (q + 1)
      more h x a b = elim (nat_lt x q) as (λ t. nat_lt x q ≡ t → NoneAt delimiters s x) [
        | true ↦ λ t. none x a (grind (arith, t))
        | false ↦ λ t. let same : q ≡ x = grind (arith, t) in subst (NoneAt delimiters s) same h
      ] refl

      by_delimiter : NoneAt delimiters s q ⊎ ((kind : Delimiter) × (to : ℕ) × IsBestDelimiter delimiters s kind q to) → (NoneAt delimiters s q → (n : ℕ) × IsRaw delimiters s p n) → (n : ℕ) × IsRaw delimiters s p n
      by_delimiter (inl h) others = others h
      by_delimiter (inr d) others = (q, record { some = l; within = omega (arith, e); bare = none; ends = inr d })

  raw_at : (p : ℕ) → p < length s → NoneAt delimiters s p → (n : ℕ) × IsRaw delimiters s p n
  raw_at p l bare = raw_from p (length s - (p + 1)) (p + 1) (omega (arith, l)) (omega arith) (λ x a b. let same : p ≡ x = omega (arith, a, b) in subst (NoneAt delimiters s) same bare)

  module _ (ls : List Lexeme) (p : ℕ) where
    abbrev pub Wrong : Mode → Type 0
    Wrong mode = (place : Span) × (reason : List ℕ) × IsWrong delimiters s (left_at ls mode p) place reason

    abbrev pub Found : Mode → Type 0
    Found mode = Wrong mode ⊎ Next delimiters s ls mode p

    -- where the open tag or comment begins
    abbrev pub Begun : Mode → Type 0
    Begun mode = (awaited_sort mode ≡ None) ⊎ ((at : Span) × (sort : Sort) × (awaited_sort mode ≡ Some sort) × (begin_in mode ls ≡ Some at))

    -- where a delimiter is
    marked : (mode : Mode) → Begun mode → (kind : Delimiter) (to : ℕ) → IsBestDelimiter delimiters s kind p to → Found mode
    marked outside begin kind to stands = elim (edge kind) [
      | inl h ↦ inr (record { t = begin_token h.0; hyphen = has_hyphen kind; to = to; step = inr (h.0, refl, record { kind = kind; occurs = stands; of_sort = h.1; of_hyphen = refl }); fits = begin_fits h.0 [] })
      | inr h ↦ inl (span_of p to, codes "unexpected " ++ token_word (end_token h.0), wrong_end delimiters s (left_at ls outside p) kind h.0 to stands h.1 (λ e. cc))
    ]
    marked (in_tag sort path) begin kind to stands = elim (edge kind) [
      | inl h ↦ begins h
      | inr h ↦ ends h
    ]
      where
        begins : (other : Sort) × (begin_sort kind ≡ Some other) → Found (in_tag sort path)
        begins (other, h) = elim begin [
          | inl none ↦ absurd cc
          | inr b ↦ inl (b.0, codes "unclosed " ++ token_word (begin_token b.1), wrong_begin delimiters s (left_at ls (in_tag sort path) p) kind b.1 other to b.0 stands h b.2 b.3)
        ]

        ends : (other : Sort) × (end_sort kind ≡ Some other) → Found (in_tag sort path)
        ends (other, h) = by_sort (same_sort sort other)
          where
            by_brackets : sort ≡ other → (brackets : List Lexeme) → open_brackets ls ≡ brackets → Found (in_tag sort path)
            by_brackets e [] none = inr (record { t = end_token sort; hyphen = has_hyphen kind; to = to; step = inl (refl, record { kind = kind; occurs = stands; of_sort = h ∙ ap Some (sym e); of_hyphen = refl }); fits = end_fits sort (open_brackets ls) none })
            by_brackets e (bracket ∷ others) are = inl (bracket.span, codes "unclosed " ++ token_word bracket.token, wrong_bracket delimiters s (left_at ls (in_tag sort path) p) kind other to bracket others stands h (ap Some e) are)

            by_sort : (sort ≡ other) ⊎ (Some sort ≡ Some other → ⊥) → Found (in_tag sort path)
            by_sort (inl e) = by_brackets e (open_brackets ls) refl
            by_sort (inr differs) = inl (span_of p to, codes "unexpected " ++ token_word (end_token other), wrong_end delimiters s (left_at ls (in_tag sort path) p) kind other to stands h differs)
    marked in_comment begin kind to stands = elim (edge kind) [
      | inl h ↦ begins h
      | inr h ↦ ends h
    ]
      where
        begins : (other : Sort) × (begin_sort kind ≡ Some other) → Found in_comment
        begins (other, h) = elim begin [
          | inl none ↦ absurd cc
          | inr b ↦ inl (b.0, codes "unclosed " ++ token_word (begin_token b.1), wrong_begin delimiters s (left_at ls in_comment p) kind b.1 other to b.0 stands h b.2 b.3)
        ]

        ends : (other : Sort) × (end_sort kind ≡ Some other) → Found in_comment
        ends (other, h) = elim (same_sort comment other) [
          | inl e ↦ inr (record { t = EndComment; hyphen = has_hyphen kind; to = to; step = inr (refl, record { kind = kind; occurs = stands; of_sort = h ∙ ap Some (sym e); of_hyphen = refl }); fits = refl })
          | inr differs ↦ inl (span_of p to, codes "unexpected " ++ token_word (end_token other), wrong_end delimiters s (left_at ls in_comment p) kind other to stands h differs)
        ]

    -- where none is
    bare_in_tag : (sort : Sort) (path : Bool) → NoneAt delimiters s p → InnerAt s path p → Found (in_tag sort path)
    bare_in_tag sort path bare (inl (t, n, b)) = by_close (closing t (open_brackets ls) (extent_is_inside s t p n b.extent))
      where
        inner : IsInside delimiters s path t p n
        inner = record { bare = bare; first = b.first; occurs = b.occurs; of_kind = b.of_kind; extent = b.extent }

        by_close : BracketsFit (open_brackets ls) t ⊎ ((is_close t ≡ true) × (closes_first (open_brackets ls) t ≡ false)) → Found (in_tag sort path)
        by_close (inl fits) = inr (record { t = t; hyphen = false; to = n; step = inr (refl, inner); fits = fits })
        by_close (inr wrong) = inl (span_of p n, codes "unexpected " ++ token_word t, wrong_close delimiters s (left_at ls (in_tag sort path) p) sort path t n refl inner wrong.0 wrong.1)
    bare_in_tag sort path bare (inr (place, reason, h)) = inl (place, reason, wrong_inside delimiters s (left_at ls (in_tag sort path) p) sort path place reason refl bare h)

    bare_at : (mode : Mode) → p < length s → NoneAt delimiters s p → IsCharBoundary s p → Found mode
    bare_at outside l bare between = let raw = raw_at p l bare in inr (record { t = Raw; hyphen = false; to = raw.0; step = inl (refl, refl, raw.1); fits = tt })
    bare_at in_comment l bare between = let raw = raw_at p l bare in inr (record { t = Raw; hyphen = false; to = raw.0; step = inl (refl, refl, raw.1); fits = tt })
    bare_at (in_tag sort path) l bare between = let chars = IsUtf8-drop s p text between in by_chars chars.0 (sym chars.1.1)
      where
        by_chars : (cs : List ℕ) → Spelled s p cs → Found (in_tag sort path)
        by_chars [] e = absurd (omega (arith, l, ap length e, length-drop p s))
        by_chars (c ∷ cs) e = bare_in_tag sort path bare (inner_at s path p c cs e)

  pub next_at : (ls : List Lexeme) (mode : Mode) (p : ℕ) → ReadsTo delimiters s ls mode p → Begun ls p mode → p < length s → Found ls p mode
  next_at ls mode p reads begin l = elim (delimiter_at delimiters s p) [
    | inl bare ↦ bare_at ls p mode l bare (cut_lies_from delimiters s texts outside mode 0 p ls utf8 text (IsCharBoundary-start s text) reads).1
    | inr d ↦ marked ls p mode begin d.0 d.1 d.2
  ]

  -- a fault that ends the cutting is the first of all, or the next token is and fits
  pub next_or_fault : (ls : List Lexeme) (mode : Mode) (p : ℕ) → Stage delimiters s ls mode p → Begun ls p mode → p < length s → ((place : Span) × (reason : List ℕ) × IsFirstFault delimiters s place reason) ⊎ Next delimiters s ls mode p
  next_or_fault ls mode p stage begin l = elim (next_at ls mode p stage.reads begin l) [
    | inl wrong ↦
        let fault = wrong.2 ls (has_read delimiters s texts ls mode p stage.reads (clear_so_far delimiters s texts ls mode p stage)) in
        inl (wrong.0, wrong.1, cut_fault_is_first delimiters s texts ls mode p fault.0 wrong.0 wrong.1 stage.reads stage.before fault.1 fault.2)
    | inr next ↦ inr next
  ]
