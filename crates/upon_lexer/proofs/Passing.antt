-- A lexer that passes a token: it is the token where the lexer was, and the lexer is behind it.
use Rattle.std.proofs.Common.{◌≡◌, ℕ, ◌<◌, ◌&&◌, List, [], ◌∷◌, ◌++◌, Bool, true, false, Option, Some, None, Ok, inl, inr, refl, sym, ap, ◌∙◌, subst, arith}
use Rattle.upon_types.specs.declared.types.Span.{Span}
use Rattle.upon_types.specs.declared.types.Delimiter.{Delimiter}
use Rattle.upon_types.specs.declared.types.token.Token.{Token}
use Rattle.upon_types.specs.declared.types.token.Token.TheVariants.{Ident, Keyword, Dot, Pipe, Comma, Colon, Whitespace}
use Rattle.upon_language_spec.specs.Search.{DelimiterText, HasTexts, IsBestDelimiter}
use Rattle.upon_language_spec.specs.Delimiters.{Sort, expression, block, comment, begin_token, end_token, begin_sort, end_sort, has_hyphen}
use Rattle.upon_language_spec.specs.Cut.{Lexeme, Mode, outside, in_tag, in_comment, IsToken, mode_after, same_mode}
use Rattle.upon_language_spec.specs.Faults.{awaited_sort, span_of}
use Rattle.upon_language_spec.specs.Reading.{brackets_after}
use Rattle.upon_language_spec.specs.Shown.{is_end}
use Rattle.upon_language_spec.specs.Tokens.{is_raw, is_space}
use Rattle.upon_language_spec.specs.Lexing.{LexerState, HasRead, IsGiven, Lexes, EachIsSpace}
use Rattle.upon_language_spec.specs.LexStep.{BracketsFit, IsNext, begin_after, state_after}
use Rattle.upon_language_spec.proofs.Offsets.Clear.{clear_behind}
use Rattle.upon_language_spec.proofs.OneCut.Token.{step_ends}
use Rattle.upon_lexer.specs.Plain.{is_frequent}
use Rattle.upon_lexer.specs.Spelling.{IsSpelled, LiesBetween}
use Rattle.upon_lexer.proofs.ReadMore.{read_more}
use Rattle.upon_lexer.proofs.Spelling.{spelled, given_same, given_spelled}

pub same_state : (a b : LexerState) → a.offset ≡ b.offset → a.mode ≡ b.mode → a.begin ≡ b.begin → a.brackets ≡ b.brackets → a.trims ≡ b.trims → a.over ≡ b.over → a ≡ b
same_state a b offset mode begin brackets trims over = λ i. record { offset = offset i; mode = mode i; begin = begin i; brackets = brackets i; trims = trims i; over = over i }

-- a frequent token leaves the brackets, where the tag begins, and the kind of mode
pub record IsQuiet (t : Token) : Type 0 where
  pub mode : (mode : Mode) → mode_after mode t ≡ same_mode mode t
  pub begin : (span : Span) (begin : Option Span) → begin_after t span begin ≡ begin
  pub brackets : (stack : List Lexeme) (l : Lexeme) → brackets_after stack t l ≡ stack
  pub no_end : is_end t ≡ false

pub quiet : (t : Token) → is_frequent t ≡ true → IsQuiet t
quiet Ident h = record { mode = λ mode. refl; begin = λ span begin. refl; brackets = λ stack l. refl; no_end = refl }
quiet Keyword h = record { mode = λ mode. refl; begin = λ span begin. refl; brackets = λ stack l. refl; no_end = refl }
quiet Dot h = record { mode = λ mode. refl; begin = λ span begin. refl; brackets = λ stack l. refl; no_end = refl }
quiet Pipe h = record { mode = λ mode. refl; begin = λ span begin. refl; brackets = λ stack l. refl; no_end = refl }
quiet Comma h = record { mode = λ mode. refl; begin = λ span begin. refl; brackets = λ stack l. refl; no_end = refl }
quiet Colon h = record { mode = λ mode. refl; begin = λ span begin. refl; brackets = λ stack l. refl; no_end = refl }
quiet Whitespace h = record { mode = λ mode. refl; begin = λ span begin. refl; brackets = λ stack l. refl; no_end = refl }
quiet t h = absurd (cc)

pub spaces_more : (spaces : List Lexeme) (l : Lexeme) → EachIsSpace spaces → is_space l.token ≡ true → EachIsSpace (spaces ++ l ∷ [])
spaces_more [] l each h = (h, tt)
spaces_more (k ∷ ks) l each h = (each.0, spaces_more ks l each.1 h)

frequent_is_no_raw : (t : Token) → is_frequent t ≡ true → is_raw t ≡ false
frequent_is_no_raw Ident h = refl
frequent_is_no_raw Keyword h = refl
frequent_is_no_raw Dot h = refl
frequent_is_no_raw Pipe h = refl
frequent_is_no_raw Comma h = refl
frequent_is_no_raw Colon h = refl
frequent_is_no_raw Whitespace h = refl
frequent_is_no_raw t h = absurd (cc)

no_end_trims : (b h : Bool) → b ≡ false → (b && h) ≡ false
no_end_trims true h e = absurd (cc)
no_end_trims false h e = refl

begin_is_quiet : (sort : Sort) (stack : List Lexeme) (l : Lexeme) → (brackets_after stack (begin_token sort) l ≡ stack) × (is_end (begin_token sort) ≡ false) × BracketsFit stack (begin_token sort) × (is_raw (begin_token sort) ≡ false)
begin_is_quiet expression stack l = (refl, refl, tt, refl)
begin_is_quiet block stack l = (refl, refl, tt, refl)
begin_is_quiet comment stack l = (refl, refl, tt, refl)

pub end_is_no_raw : (sort : Sort) → is_raw (end_token sort) ≡ false
end_is_no_raw expression = refl
end_is_no_raw block = refl
end_is_no_raw comment = refl

-- what no raw part is, is given as it is
pub given_whole : (delimiters : List DelimiterText) (s : List ℕ) (mode : Mode) (trims : Bool) (t : Token) (span : Span) → is_raw t ≡ false → IsGiven delimiters s mode trims t span span
given_whole delimiters s outside trims t span no_raw = by_token t no_raw
  where
    by_token : (u : Token) → is_raw u ≡ false → IsGiven delimiters s outside trims u span span
    by_token Token.Raw e = absurd (cc)
    by_token u e = refl
given_whole delimiters s (in_tag sort path) trims t span no_raw = refl
given_whole delimiters s in_comment trims t span no_raw = refl

module _ (delimiters : List DelimiterText) (s : List ℕ) (left : LexerState) where
  -- a frequent token
  pub frequent_state : (t : Token) (l : Lexeme) (after : LexerState) → is_frequent t ≡ true → l.token ≡ t → l.span.n ≡ after.offset → after.mode ≡ mode_after left.mode t → after.begin ≡ left.begin → after.brackets ≡ left.brackets → after.trims ≡ false → after.over ≡ false → after ≡ state_after left l
  frequent_state t l after h is offset mode begin brackets trims over =
      let quiet = quiet l.token (ap is_frequent is ∙ h) in
      same_state after (state_after left l) (sym offset) (mode ∙ ap (mode_after left.mode) (sym is)) (begin ∙ sym (quiet.begin l.span left.begin)) (brackets ∙ sym (quiet.brackets left.brackets l))
      (trims ∙ sym (no_end_trims (is_end l.token) l.hyphen quiet.no_end)) over

  pub frequent_given : (t : Token) (span : Span) → is_frequent t ≡ true → IsGiven delimiters s left.mode left.trims t span span
  frequent_given t span h = given_whole delimiters s left.mode left.trims t span (frequent_is_no_raw t h)

  -- a begin outside tags
  module _ (kind : Delimiter) (sort : Sort) (t : Token) (span : Span) (is : t ≡ begin_token sort) where
    abbrev begin : Lexeme
    begin = record { token = t; hyphen = has_hyphen kind; span = span }

    begin_quiet : (brackets_after left.brackets t begin ≡ left.brackets) × (is_end t ≡ false) × BracketsFit left.brackets t × (is_raw t ≡ false)
    begin_quiet =
        let Quiet : Token → Type 0 = λ u. (brackets_after left.brackets u begin ≡ left.brackets) × (is_end u ≡ false) × BracketsFit left.brackets u × (is_raw u ≡ false) in
        subst Quiet (sym is) (begin_is_quiet sort left.brackets begin)

    pub begin_next : left.mode ≡ outside → IsBestDelimiter delimiters s kind span.m span.n → span.m ≡ left.offset → begin_sort kind ≡ Some sort → IsNext delimiters s left begin
    begin_next mode best start of_sort =
        let At : ℕ → Type 0 = λ p. IsBestDelimiter delimiters s kind p span.n in
        let In : Mode → Type 0 = λ m. IsToken delimiters s m t (has_hyphen kind) left.offset span.n in
        record {
          from = start;
          step = subst In (sym mode) (inr (sort, is, record { kind = kind; occurs = subst At start best; of_sort = of_sort; of_hyphen = refl }));
          fits = begin_quiet.2;
        }

    pub begin_given : IsGiven delimiters s left.mode left.trims t span span
    begin_given = given_whole delimiters s left.mode left.trims t span begin_quiet.3

    pub begin_state : (after : LexerState) → after.offset ≡ span.n → after.mode ≡ mode_after left.mode t → after.begin ≡ begin_after t span left.begin → after.brackets ≡ left.brackets → after.trims ≡ false → after.over ≡ false → after ≡ state_after left begin
    begin_state after offset mode begins brackets trims over =
        same_state after (state_after left begin) offset mode begins (brackets ∙ sym begin_quiet.0) (trims ∙ sym (no_end_trims (is_end t) (has_hyphen kind) begin_quiet.1)) over

  -- the end of the open tag
  module _ (kind : Delimiter) (sort : Sort) (span : Span) (no_bracket : left.brackets ≡ []) where
    abbrev end : Lexeme
    end = record { token = end_token sort; hyphen = has_hyphen kind; span = span }

    ends : (mode : Mode) → awaited_sort mode ≡ Some sort → IsBestDelimiter delimiters s kind left.offset span.n → end_sort kind ≡ Some sort → IsToken delimiters s mode (end_token sort) (has_hyphen kind) left.offset span.n
    ends outside awaited best of_sort = absurd (cc)
    ends (in_tag other path) awaited best of_sort =
        let same : other ≡ sort = cc in
        let In : Sort → Type 0 = λ o. IsToken delimiters s (in_tag o path) (end_token sort) (has_hyphen kind) left.offset span.n in
        subst In (sym same) (inl (refl, record { kind = kind; occurs = best; of_sort = of_sort; of_hyphen = refl }))
    ends in_comment awaited best of_sort =
        let same : comment ≡ sort = cc in
        inr (ap end_token (sym same), record { kind = kind; occurs = best; of_sort = of_sort ∙ ap Some (sym same); of_hyphen = refl })

    fits : (sort : Sort) → BracketsFit left.brackets (end_token sort)
    fits expression = no_bracket
    fits block = no_bracket
    fits comment = no_bracket

    pub end_next : awaited_sort left.mode ≡ Some sort → IsBestDelimiter delimiters s kind span.m span.n → span.m ≡ left.offset → end_sort kind ≡ Some sort → IsNext delimiters s left end
    end_next awaited best start of_sort =
        let At : ℕ → Type 0 = λ p. IsBestDelimiter delimiters s kind p span.n in
        record { from = start; step = ends left.mode awaited (subst At start best) of_sort; fits = fits sort }

    after_end : (sort : Sort) (hyphen : Bool) (l : Lexeme) → (mode_after left.mode (end_token sort) ≡ outside) × (begin_after (end_token sort) span left.begin ≡ None) × (brackets_after left.brackets (end_token sort) l ≡ left.brackets) × ((is_end (end_token sort) && hyphen) ≡ hyphen)
    after_end expression hyphen l = (refl, refl, refl, refl)
    after_end block hyphen l = (refl, refl, refl, refl)
    after_end comment hyphen l = (refl, refl, refl, refl)

    pub end_state : (after : LexerState) → after.offset ≡ span.n → after.mode ≡ outside → after.begin ≡ None → after.brackets ≡ left.brackets → after.trims ≡ has_hyphen kind → after.over ≡ false → after ≡ state_after left end
    end_state after offset mode begins brackets trims over =
        let is = after_end sort (has_hyphen kind) end in
        same_state after (state_after left end) offset (mode ∙ sym is.0) (begins ∙ sym is.1) (brackets ∙ sym is.2) (trims ∙ sym is.3) over

  -- what a lexer gives that has passed a token
  module _ (texts : HasTexts delimiters) (l : Lexeme) (next : IsNext delimiters s left l) (t : Token) (is : l.token ≡ t) (given : Span) (of_span : IsGiven delimiters s left.mode left.trims l.token l.span given) where
    pub passed_read : (ls : List Lexeme) (after : LexerState) → HasRead delimiters s left ls → after ≡ state_after left l → HasRead delimiters s after (ls ++ l ∷ [])
    passed_read ls after r e =
        let F : LexerState → Type 0 = λ x. HasRead delimiters s x (ls ++ l ∷ []) in
        subst F (sym e) (read_more delimiters s left ls r l next (clear_behind delimiters s texts left ls r l next))

    pub passed_gives : (ls : List Lexeme) (after : LexerState) → HasRead delimiters s left ls → after ≡ state_after left l → Lexes delimiters s left ls (Ok (Some (t, given))) after
    passed_gives ls after r e = (l, is, of_span, passed_read ls after r e)

    pub passed_further : (after : LexerState) → after ≡ state_after left l → left.offset < after.offset
    passed_further after e =
        let F : LexerState → Type 0 = λ x. left.offset < x.offset in
        subst F (sym e) (step_ends delimiters s left.mode l.token l.hyphen left.offset l.span.n texts next.step).0

    pub passed_spelled : IsSpelled s t given
    passed_spelled =
        let At : ℕ → Type 0 = λ m. IsSpelled s l.token (span_of m l.span.n) in
        let As : Token → Type 0 = λ u. IsSpelled s u given in
        let here = subst At (sym next.from) (spelled delimiters s left.mode l.token l.hyphen left.offset l.span.n next.step) in
        subst As is (given_spelled delimiters s left.mode left.trims l.token l.span given of_span here)

    pub passed_between : (after : LexerState) → after ≡ state_after left l → LiesBetween left.offset after.offset t given
    passed_between after e = λ no_raw.
        let same = given_same delimiters s left.mode left.trims l.token l.span given (ap is_raw is ∙ no_raw) of_span in
        let end : after.offset ≡ l.span.n = ap (λ (x : LexerState). x.offset) e in
        (omega (arith, ap (λ (x : Span). x.m) same, next.from), omega (arith, ap (λ (x : Span). x.n) same, end))
