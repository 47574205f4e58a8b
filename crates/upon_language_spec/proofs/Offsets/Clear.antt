-- Where a token is that no bracket forbids, no fault ends the cutting, nor inside the token; and none at the text's end.
use Rattle.std.proofs.Common.{◌≡◌, ℕ, ◌<◌, ◌≤◌, List, [], ◌∷◌, length, Bool, true, false, inl, inr, sym, ap, ◌∙◌, subst, arith, encode_utf8, lit<}
use Rattle.std.proofs.lemmas.Bool.{cases_order}
use Rattle.upon_types.specs.declared.types.Span.{Span}
use Rattle.upon_types.specs.declared.types.token.Token.{Token}
use Rattle.upon_types.specs.declared.types.token.Token.TheVariants.{CloseBracket, CloseBrace, CloseParen}
use Rattle.upon_language_spec.specs.Search.{DelimiterText, HasTexts}
use Rattle.upon_language_spec.specs.Delimiters.{Sort, expression, block, comment, end_token}
use Rattle.upon_language_spec.specs.Cut.{Lexeme, Mode, outside, in_tag, IsToken, mode_after, Cut}
use Rattle.upon_language_spec.proofs.SpansLieIn.Offsets.{occurs_within}
use Rattle.upon_language_spec.proofs.OneCut.Delimiter.{not_bare, stands_ends}
use Rattle.upon_language_spec.proofs.OneCut.Run.{char_has_bytes}
use Rattle.upon_language_spec.proofs.OneCut.Inside.{one_inner, inner_ends}
use Rattle.upon_language_spec.proofs.OneCut.Token.{one_step, step_ends}
use Rattle.upon_language_spec.proofs.OneCut.Cut.{cut_on, cut_ends, one_cut_to}
use Rattle.upon_language_spec.specs.Reading.{ReadsTo, open_brackets}
use Rattle.upon_language_spec.specs.Faults.{UnclosedBracket, UnexpectedClose, closes_first, is_close}
use Rattle.upon_language_spec.specs.FirstFault.{SyntaxFault, unexpected_end, unclosed_tag, unclosed_bracket, unexpected_close, unexpected_character, undelimited_string, Holds}
use Rattle.upon_language_spec.specs.CutFaults.{ends_cutting, NoCutFault, ClearTo}
use Rattle.upon_language_spec.proofs.NoTreeWithFault.Cut.{no_step_at_end, no_step_at_begin, no_step_at_character, no_step_at_quote}
use Rattle.upon_language_spec.specs.Lexing.{LexerState, HasRead}
use Rattle.upon_language_spec.specs.LexStep.{IsNext, BracketsFit}

-- the text reads to the point of each such fault
pub reads_of : (delimiters : List DelimiterText) (s : List ℕ) (row : SyntaxFault) (p : ℕ) (place : Span) (reason : List ℕ) → ends_cutting row ≡ true → Holds delimiters s row p place reason → (ls : List Lexeme) × (mode : Mode) × ReadsTo delimiters s ls mode p
reads_of delimiters s unexpected_end p place reason e f = (f.lexemes, f.mode, f.reads)
reads_of delimiters s unclosed_tag p place reason e f = (f.lexemes, f.mode, f.reads)
reads_of delimiters s unclosed_bracket p place reason e f = (f.lexemes, in_tag f.sort f.in_path, f.reads)
reads_of delimiters s unexpected_close p place reason e f = (f.lexemes, in_tag f.sort f.in_path, f.reads)
reads_of delimiters s unexpected_character p place reason e f = (f.lexemes, in_tag f.sort f.in_path, f.reads)
reads_of delimiters s undelimited_string p place reason e f = (f.lexemes, in_tag f.sort f.in_path, f.reads)
reads_of delimiters s row p place reason e f = absurd (cc)

module _ (delimiters : List DelimiterText) (s : List ℕ) (texts : HasTexts delimiters) where
  -- something is at the point of each such fault
  pub fault_within : (row : SyntaxFault) (p : ℕ) (place : Span) (reason : List ℕ) → ends_cutting row ≡ true → Holds delimiters s row p place reason → p < length s
  fault_within unexpected_end p place reason e f = let ends = stands_ends delimiters s f.ends.kind p f.to texts f.ends.occurs in omega (arith, ends.0, ends.1)
  fault_within unclosed_tag p place reason e f = let ends = stands_ends delimiters s f.begins.kind p f.to texts f.begins.occurs in omega (arith, ends.0, ends.1)
  fault_within unclosed_bracket p place reason e f = let ends = stands_ends delimiters s f.ends.kind p f.to texts f.ends.occurs in omega (arith, ends.0, ends.1)
  fault_within unexpected_close p place reason e f = let ends = inner_ends delimiters s f.in_path f.t p f.to f.occurs in omega (arith, ends.0, ends.1)
  fault_within unexpected_character p place reason e f = omega (arith, occurs_within s p (encode_utf8 f.c) (char_has_bytes f.c) f.occurs, char_has_bytes f.c)
  fault_within undelimited_string p place reason e f = let within = occurs_within s p (34 ∷ []) (lit< tt) f.quote in omega (arith, within)
  fault_within row p place reason e f = absurd (cc)

  goes_past : (mode mode' : Mode) (m n q : ℕ) (t : Token) (hyphen : Bool) (rest : List Lexeme) → IsToken delimiters s mode t hyphen m n → m < q → Cut delimiters s mode m rest mode' q → n ≤ q
  goes_past mode mode' m n q t hyphen [] step below cut = absurd (omega (arith, below, cut.1))
  goes_past mode mode' m n q t hyphen (l ∷ ls) step below cut =
      let same = one_step delimiters s mode t l.token hyphen l.hyphen m n l.span.n step cut.1 in
      let ends = step_ends delimiters s mode l.token l.hyphen m l.span.n texts cut.1 in
      let others = cut_ends delimiters s texts (mode_after mode l.token) mode' l.span.n q ls ends.1 cut.2 in
      omega (arith, same.2, others.0)

  -- the text reads to no span inside a token
  pub no_read_inside : (mode mode' : Mode) (m n q : ℕ) (ls ks : List Lexeme) (t : Token) (hyphen : Bool) → ReadsTo delimiters s ls mode m → IsToken delimiters s mode t hyphen m n → ReadsTo delimiters s ks mode' q → m < q → n ≤ q
  no_read_inside mode mode' m n q ls ks t hyphen reads step there below =
      let on = cut_on delimiters s texts outside mode mode' 0 m q ls ks (omega (arith, below)) reads there in
      goes_past mode mode' m n q t hyphen on.0 step below on.2

  module _ (left : LexerState) (ls : List Lexeme) (r : HasRead delimiters s left ls) where
    -- what was read to the lexer's offset, and in which mode it lies
    read_alike : (ks : List Lexeme) (mode : Mode) → ReadsTo delimiters s ks mode left.offset → (ks ≡ ls) × (left.mode ≡ mode)
    read_alike ks mode h = let same = one_cut_to delimiters s mode left.mode left.offset ks ls texts h r.reads in (same.0, sym same.1)

    module _ (l : Lexeme) (next : IsNext delimiters s left l) where
      step_in : (mode : Mode) → left.mode ≡ mode → IsToken delimiters s mode l.token l.hyphen left.offset l.span.n
      step_in mode e = let F : Mode → Type 0 = λ m. IsToken delimiters s m l.token l.hyphen left.offset l.span.n in subst F e next.step

      end_with_brackets : (sort : Sort) → l.token ≡ end_token sort → (bracket : Lexeme) (others : List Lexeme) → left.brackets ≡ bracket ∷ others → ⊥
      end_with_brackets sort e bracket others brackets = by_sort sort (subst (BracketsFit left.brackets) e next.fits)
        where
          by_sort : (sort : Sort) → BracketsFit left.brackets (end_token sort) → ⊥
          by_sort expression fits = let none = sym fits ∙ brackets in cc
          by_sort block fits = let none = sym fits ∙ brackets in cc
          by_sort comment fits = let none = sym fits ∙ brackets in cc

      close_fits : (t : Token) → is_close t ≡ true → BracketsFit left.brackets t → closes_first left.brackets t ≡ true
      close_fits CloseBracket c fits = fits
      close_fits CloseBrace c fits = fits
      close_fits CloseParen c fits = fits
      close_fits t c fits = absurd (cc)

      not_unclosed_bracket : (place : Span) (reason : List ℕ) → UnclosedBracket delimiters s left.offset place reason → ⊥
      not_unclosed_bracket place reason f =
          let alike = read_alike f.lexemes (in_tag f.sort f.in_path) f.reads in
          let brackets : left.brackets ≡ f.bracket ∷ f.others = sym (rw alike.1 at r.brackets) ∙ ap open_brackets (sym alike.0) ∙ f.brackets in
          elim (step_in (in_tag f.sort f.in_path) alike.1) [
            | inl end ↦ end_with_brackets f.sort end.0 f.bracket f.others brackets
            | inr inner ↦ not_bare delimiters s f.ends.kind left.offset f.to f.ends.occurs inner.1.bare
          ]

      not_unexpected_close : (place : Span) (reason : List ℕ) → UnexpectedClose delimiters s left.offset place reason → ⊥
      not_unexpected_close place reason f =
          let alike = read_alike f.lexemes (in_tag f.sort f.in_path) f.reads in
          let brackets : open_brackets f.lexemes ≡ left.brackets = ap open_brackets alike.0 ∙ (rw alike.1 at r.brackets) in
          elim (step_in (in_tag f.sort f.in_path) alike.1) [
            | inl end ↦ not_bare delimiters s end.1.kind left.offset l.span.n end.1.occurs f.occurs.bare
            | inr inner ↦
                let same = one_inner delimiters s f.in_path l.token f.t left.offset l.span.n f.to inner.1 f.occurs in
                let closes : closes_first left.brackets f.t ≡ true = close_fits f.t f.close (subst (BracketsFit left.brackets) same.0 next.fits) in
                let fails : closes_first left.brackets f.t ≡ false = sym (ap (λ x. closes_first x f.t) brackets) ∙ f.unmatched in
                cc
          ]

      -- no such fault holds where the token begins
      none_here : NoCutFault delimiters s left.offset
      none_here unexpected_end place reason e f = let alike = read_alike f.lexemes f.mode f.reads in no_step_at_end delimiters s texts f.mode f.sort f.hyphen left.offset f.to f.ends f.unexpected l.token l.hyphen l.span.n (step_in f.mode alike.1)
      none_here unclosed_tag place reason e f = let alike = read_alike f.lexemes f.mode f.reads in no_step_at_begin delimiters s texts f.mode f.sort f.opening f.hyphen left.offset f.to f.awaits f.begins l.token l.hyphen l.span.n (step_in f.mode alike.1)
      none_here unclosed_bracket place reason e f = not_unclosed_bracket place reason f
      none_here unexpected_close place reason e f = not_unexpected_close place reason f
      none_here unexpected_character place reason e f = let alike = read_alike f.lexemes (in_tag f.sort f.in_path) f.reads in no_step_at_character delimiters s texts f.sort f.in_path f.c left.offset f.to f.bare f.occurs f.nothing l.token l.hyphen l.span.n (step_in (in_tag f.sort f.in_path) alike.1)
      none_here undelimited_string place reason e f = let alike = read_alike f.lexemes (in_tag f.sort f.in_path) f.reads in no_step_at_quote delimiters s texts f.sort f.in_path left.offset f.bare f.quote f.no_string l.token l.hyphen l.span.n (step_in (in_tag f.sort f.in_path) alike.1)
      none_here row place reason e f = absurd (cc)

      -- nor before its end
      pub clear_behind : ClearTo delimiters s l.span.n
      clear_behind q below row place reason e f = elim (cases_order q left.offset) [
        | inl here ↦ let F : ℕ → Type 0 = λ x. Holds delimiters s row x place reason in none_here row place reason e (subst F here f)
        | inr other ↦ elim other [
          | inl before ↦ r.clear q before row place reason e f
          | inr behind ↦
              let there = reads_of delimiters s row q place reason e f in
              let past = no_read_inside left.mode there.1 left.offset l.span.n q ls there.0 l.token l.hyphen r.reads next.step there.2 behind in
              omega (arith, past, below)
        ]
      ]

    -- at the end of the text there is none at all
    pub none_at_end : left.offset ≡ length s → (q : ℕ) → NoCutFault delimiters s q
    none_at_end at_end q row place reason e f = r.clear q (omega (arith, at_end, fault_within row q place reason e f)) row place reason e f
