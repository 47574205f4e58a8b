-- One step in a tag whose tokens lead on and are fine: the first fault, a token that leads on and is fine, or the tag's end.
use Rattle.std.proofs.Common.{◌^◌, ◌≡◌, ◌⊎◌, inl, inr, ℕ, ◌<◌, ◌≤◌, ◌+◌, nat_lt, List, [], ◌∷◌, ◌++◌, Bool, true, false, Option, Some, None, refl, sym, ap, ◌∙◌, subst, arith, codes}
use Rattle.upon_types.specs.declared.types.Span.{Span}
use Rattle.upon_types.specs.declared.types.token.Token.{Token}
use Rattle.upon_types.specs.declared.types.token.Token.TheVariants.{Raw, BeginExpr, EndExpr, BeginBlock, EndBlock, BeginComment, EndComment, OpenBracket, CloseBracket, OpenBrace, CloseBrace, OpenParen, CloseParen, Dot, QuestionDot, Pipe, Comma, Colon, Plus, Minus, Whitespace, Keyword, Ident, Index, Number, String}
use Rattle.upon_types.specs.Span.{slice}
use Rattle.upon_language_spec.specs.Search.{DelimiterText, HasTexts}
use Rattle.upon_language_spec.specs.Delimiters.{Sort}
use Rattle.upon_language_spec.specs.Cut.{Lexeme, Mode, in_tag, in_comment, IsToken}
use Rattle.upon_language_spec.specs.Inside.{IsInside, IsQuoted}
use Rattle.upon_language_spec.specs.Reading.{last_of}
use Rattle.upon_language_spec.specs.Tags.{Symbol, symbol_of, BeginsTag}
use Rattle.upon_language_spec.specs.Literal.{digits_in}
use Rattle.upon_language_spec.specs.LiteralFaults.{index_value, escape_fault}
use Rattle.upon_language_spec.specs.Faults.{span_of, lexeme_at, tag_tokens, tag_row}
use Rattle.upon_language_spec.specs.LaterFaults.{Report, number_report, WrongNumber, WrongIndex, WrongEscape}
use Rattle.upon_language_spec.specs.FirstFault.{SyntaxFault, unexpected_end, unclosed_tag, unclosed_bracket, unexpected_close, unexpected_character, undelimited_string, unexpected_token, unexpected_eof, empty_comment, comment_eof, wrong_number, wrong_index, wrong_escape, unexpected_block, unclosed_block, fault_rank, Holds, IsFirstFault}
use Rattle.upon_language_spec.proofs.OneCut.Token.{step_ends}
use Rattle.upon_language_spec.proofs.OneTree.Literal.{one_pieces}
use Rattle.upon_language_spec.specs.LexStep.{BracketsFit}
use Rattle.upon_language_spec.specs.Lexing.{brackets_in}
use Rattle.upon_language_spec.specs.Parts.{Part, after_symbol}
use Rattle.upon_language_spec.proofs.Wanted.WantedAt.{may_follow}
use Rattle.upon_language_spec.specs.OpenParts.{StandsAt}
use Rattle.upon_language_spec.proofs.Totality.FittingClears.{symbols_plain, word_plain, alike, in_mode, not_comment, not_at_end}
use Rattle.upon_language_spec.proofs.Totality.First.{first_at}
use Rattle.upon_language_spec.specs.Stages.{Stage}
use Rattle.upon_language_spec.proofs.Totality.Stage.{clear_to}
use Rattle.upon_language_spec.specs.InTags.{StandsFor}
use Rattle.upon_language_spec.proofs.Totality.LiteralValues.{number_stands, index_stands, text_stands}

abbrev pub Fault : List DelimiterText → List ℕ → Type 0
Fault delimiters s = (place : Span) × (reason : List ℕ) × IsFirstFault delimiters s place reason

-- a token that denotes something where it is a literal
pub record FineHere (s : List ℕ) (ls : List Lexeme) (p : ℕ) (t : Token) (hyphen : Bool) (to : ℕ) : Type 0 where
  pub number : t ≡ Number → number_report (slice s (span_of p to)) (last_of (tag_tokens ls)) p to ≡ None
  pub index : t ≡ Index → nat_lt (index_value (digits_in 10 (slice s (span_of p to)))) (2 ^ 64) ≡ true
  pub string : t ≡ String → (q : IsQuoted s p to) → escape_fault (p + 1) q.pieces ≡ None
  pub value : StandsFor s (last_of (tag_tokens ls)) t (lexeme_at t hyphen p to)

-- a token that may be in a tag is no later fault but for its value
module _ (delimiters : List DelimiterText) (s : List ℕ) (texts : HasTexts delimiters) (sort : Sort) (path : Bool) (p : ℕ) (ls : List Lexeme) (stage : Stage delimiters s ls (in_tag sort path) p) (ps next : List Part) (stands : StandsAt s ls ps)
    (t : Token) (hyphen : Bool) (to : ℕ) (step : IsToken delimiters s (in_tag sort path) t hyphen p to) (brackets : BracketsFit (brackets_in (in_tag sort path) ls) t) (leads : after_symbol ps (symbol_of s (lexeme_at t hyphen p to)) ≡ Some next) where
  abbrev Same : (ks : List Lexeme) (mode : Mode) → Type 0
  Same ks mode = (ks ≡ ls) × (mode ≡ in_tag sort path)

  pub begins : BeginsTag (tag_row s ls ++ symbol_of s (lexeme_at t hyphen p to) ∷ [])
  begins = may_follow (tag_row s ls) ps next (symbol_of s (lexeme_at t hyphen p to)) (symbols_plain s (tag_tokens ls)) (word_plain s t (span_of p to)) stands leads

  no_cut_fault : (row : SyntaxFault) (place : Span) (reason : List ℕ) → Holds delimiters s row p place reason → (fault_rank row < 6) → ⊥
  no_cut_fault unexpected_end place reason h low = let ends = step_ends delimiters s (in_tag sort path) t hyphen p to texts step in clear_to delimiters s texts ls (in_tag sort path) p stage t hyphen to step brackets p ends.0 unexpected_end place reason refl h
  no_cut_fault unclosed_tag place reason h low = let ends = step_ends delimiters s (in_tag sort path) t hyphen p to texts step in clear_to delimiters s texts ls (in_tag sort path) p stage t hyphen to step brackets p ends.0 unclosed_tag place reason refl h
  no_cut_fault unclosed_bracket place reason h low = let ends = step_ends delimiters s (in_tag sort path) t hyphen p to texts step in clear_to delimiters s texts ls (in_tag sort path) p stage t hyphen to step brackets p ends.0 unclosed_bracket place reason refl h
  no_cut_fault unexpected_close place reason h low = let ends = step_ends delimiters s (in_tag sort path) t hyphen p to texts step in clear_to delimiters s texts ls (in_tag sort path) p stage t hyphen to step brackets p ends.0 unexpected_close place reason refl h
  no_cut_fault unexpected_character place reason h low = let ends = step_ends delimiters s (in_tag sort path) t hyphen p to texts step in clear_to delimiters s texts ls (in_tag sort path) p stage t hyphen to step brackets p ends.0 unexpected_character place reason refl h
  no_cut_fault undelimited_string place reason h low = let ends = step_ends delimiters s (in_tag sort path) t hyphen p to texts step in clear_to delimiters s texts ls (in_tag sort path) p stage t hyphen to step brackets p ends.0 undelimited_string place reason refl h
  no_cut_fault unexpected_token place reason h low = omega (arith, low)
  no_cut_fault unexpected_eof place reason h low = omega (arith, low)
  no_cut_fault empty_comment place reason h low = omega (arith, low)
  no_cut_fault comment_eof place reason h low = omega (arith, low)
  no_cut_fault wrong_number place reason h low = omega (arith, low)
  no_cut_fault wrong_index place reason h low = omega (arith, low)
  no_cut_fault wrong_escape place reason h low = omega (arith, low)
  no_cut_fault unexpected_block place reason h low = omega (arith, low)
  no_cut_fault unclosed_block place reason h low = omega (arith, low)

  pub least : (row : SyntaxFault) (place : Span) (reason : List ℕ) → Holds delimiters s row p place reason → 10 ≤ fault_rank row
  least unexpected_end place reason h = absurd (no_cut_fault unexpected_end place reason h (omega arith))
  least unclosed_tag place reason h = absurd (no_cut_fault unclosed_tag place reason h (omega arith))
  least unclosed_bracket place reason h = absurd (no_cut_fault unclosed_bracket place reason h (omega arith))
  least unexpected_close place reason h = absurd (no_cut_fault unexpected_close place reason h (omega arith))
  least unexpected_character place reason h = absurd (no_cut_fault unexpected_character place reason h (omega arith))
  least undelimited_string place reason h = absurd (no_cut_fault undelimited_string place reason h (omega arith))
  least unexpected_token place reason f =
      let a = alike delimiters s texts sort path p to ls t hyphen stage.reads step f.lexemes (in_tag f.sort f.in_path) f.reads in
      let b = in_mode delimiters s texts sort path p to ls t hyphen stage.reads step (in_tag f.sort f.in_path) f.t f.hyphen f.to a.1 f.occurs in
      let F : List Symbol → Type 0 = λ y. BeginsTag y in
      absurd (f.stuck (subst F (sym (λ i. tag_row s (a.0 i) ++ symbol_of s (lexeme_at (b.0 i) (b.1 i) p (b.2 i)) ∷ [])) begins))
  least unexpected_eof place reason f = absurd (not_at_end delimiters s texts sort path p to ls t hyphen stage.reads step f.eof)
  least empty_comment place reason f = absurd (not_comment delimiters s texts sort path p to ls t hyphen stage.reads step (alike delimiters s texts sort path p to ls t hyphen stage.reads step f.lexemes in_comment f.reads).1)
  least comment_eof place reason f = absurd (not_at_end delimiters s texts sort path p to ls t hyphen stage.reads step f.eof)
  least wrong_number place reason f = omega arith
  least wrong_index place reason f = omega arith
  least wrong_escape place reason f = omega arith
  least unexpected_block place reason f = omega arith
  least unclosed_block place reason f = omega arith

  is_number : (place : Span) (reason : List ℕ) → WrongNumber delimiters s p place reason → Number ≡ t
  is_number place reason f =
      let a = alike delimiters s texts sort path p to ls t hyphen stage.reads step f.lexemes (in_tag f.sort f.in_path) f.reads in
      (in_mode delimiters s texts sort path p to ls t hyphen stage.reads step (in_tag f.sort f.in_path) Number false f.to a.1 (inr (refl, f.occurs))).0

  is_index : (place : Span) (reason : List ℕ) → WrongIndex delimiters s p place reason → Index ≡ t
  is_index place reason f =
      let a = alike delimiters s texts sort path p to ls t hyphen stage.reads step f.lexemes (in_tag f.sort f.in_path) f.reads in
      (in_mode delimiters s texts sort path p to ls t hyphen stage.reads step (in_tag f.sort f.in_path) Index false f.to a.1 (inr (refl, f.occurs))).0

  pub least_index : (Number ≡ t → ⊥) → (row : SyntaxFault) (place : Span) (reason : List ℕ) → Holds delimiters s row p place reason → 11 ≤ fault_rank row
  least_index n unexpected_end place reason f = omega (arith, least unexpected_end place reason f)
  least_index n unclosed_tag place reason f = omega (arith, least unclosed_tag place reason f)
  least_index n unclosed_bracket place reason f = omega (arith, least unclosed_bracket place reason f)
  least_index n unexpected_close place reason f = omega (arith, least unexpected_close place reason f)
  least_index n unexpected_character place reason f = omega (arith, least unexpected_character place reason f)
  least_index n undelimited_string place reason f = omega (arith, least undelimited_string place reason f)
  least_index n unexpected_token place reason f = omega (arith, least unexpected_token place reason f)
  least_index n unexpected_eof place reason f = omega (arith, least unexpected_eof place reason f)
  least_index n empty_comment place reason f = omega (arith, least empty_comment place reason f)
  least_index n comment_eof place reason f = omega (arith, least comment_eof place reason f)
  least_index n wrong_number place reason f = absurd (n (is_number place reason f))
  least_index n wrong_index place reason f = omega (arith, least wrong_index place reason f)
  least_index n wrong_escape place reason f = omega (arith, least wrong_escape place reason f)
  least_index n unexpected_block place reason f = omega (arith, least unexpected_block place reason f)
  least_index n unclosed_block place reason f = omega (arith, least unclosed_block place reason f)

  pub least_escape : (Number ≡ t → ⊥) → (Index ≡ t → ⊥) → (row : SyntaxFault) (place : Span) (reason : List ℕ) → Holds delimiters s row p place reason → 12 ≤ fault_rank row
  least_escape n m unexpected_end place reason f = omega (arith, least_index n unexpected_end place reason f)
  least_escape n m unclosed_tag place reason f = omega (arith, least_index n unclosed_tag place reason f)
  least_escape n m unclosed_bracket place reason f = omega (arith, least_index n unclosed_bracket place reason f)
  least_escape n m unexpected_close place reason f = omega (arith, least_index n unexpected_close place reason f)
  least_escape n m unexpected_character place reason f = omega (arith, least_index n unexpected_character place reason f)
  least_escape n m undelimited_string place reason f = omega (arith, least_index n undelimited_string place reason f)
  least_escape n m unexpected_token place reason f = omega (arith, least_index n unexpected_token place reason f)
  least_escape n m unexpected_eof place reason f = omega (arith, least_index n unexpected_eof place reason f)
  least_escape n m empty_comment place reason f = omega (arith, least_index n empty_comment place reason f)
  least_escape n m comment_eof place reason f = omega (arith, least_index n comment_eof place reason f)
  least_escape n m wrong_number place reason f = omega (arith, least_index n wrong_number place reason f)
  least_escape n m wrong_index place reason f = absurd (m (is_index place reason f))
  least_escape n m wrong_escape place reason f = omega (arith, least_index n wrong_escape place reason f)
  least_escape n m unexpected_block place reason f = omega (arith, least_index n unexpected_block place reason f)
  least_escape n m unclosed_block place reason f = omega (arith, least_index n unclosed_block place reason f)

  is_string : (place : Span) (reason : List ℕ) → WrongEscape delimiters s p place reason → String ≡ t
  is_string place reason f =
      let a = alike delimiters s texts sort path p to ls t hyphen stage.reads step f.lexemes (in_tag f.sort f.in_path) f.reads in
      (in_mode delimiters s texts sort path p to ls t hyphen stage.reads step (in_tag f.sort f.in_path) String false f.to a.1 (inr (refl, f.occurs))).0

  pub least_block : (Number ≡ t → ⊥) → (Index ≡ t → ⊥) → (String ≡ t → ⊥) → (row : SyntaxFault) (place : Span) (reason : List ℕ) → Holds delimiters s row p place reason → 13 ≤ fault_rank row
  least_block n m k unexpected_end place reason f = omega (arith, least_escape n m unexpected_end place reason f)
  least_block n m k unclosed_tag place reason f = omega (arith, least_escape n m unclosed_tag place reason f)
  least_block n m k unclosed_bracket place reason f = omega (arith, least_escape n m unclosed_bracket place reason f)
  least_block n m k unexpected_close place reason f = omega (arith, least_escape n m unexpected_close place reason f)
  least_block n m k unexpected_character place reason f = omega (arith, least_escape n m unexpected_character place reason f)
  least_block n m k undelimited_string place reason f = omega (arith, least_escape n m undelimited_string place reason f)
  least_block n m k unexpected_token place reason f = omega (arith, least_escape n m unexpected_token place reason f)
  least_block n m k unexpected_eof place reason f = omega (arith, least_escape n m unexpected_eof place reason f)
  least_block n m k empty_comment place reason f = omega (arith, least_escape n m empty_comment place reason f)
  least_block n m k comment_eof place reason f = omega (arith, least_escape n m comment_eof place reason f)
  least_block n m k wrong_number place reason f = omega (arith, least_escape n m wrong_number place reason f)
  least_block n m k wrong_index place reason f = omega (arith, least_escape n m wrong_index place reason f)
  least_block n m k wrong_escape place reason f = absurd (k (is_string place reason f))
  least_block n m k unexpected_block place reason f = omega (arith, least_escape n m unexpected_block place reason f)
  least_block n m k unclosed_block place reason f = omega (arith, least_escape n m unclosed_block place reason f)

-- the value of a literal, or its fault
module _ (delimiters : List DelimiterText) (s : List ℕ) (texts : HasTexts delimiters) (sort : Sort) (path : Bool) (p : ℕ) (ls : List Lexeme) (stage : Stage delimiters s ls (in_tag sort path) p) (ps next : List Part) (stands : StandsAt s ls ps) (to : ℕ) where
  abbrev Decided : Token → Type 0
  Decided t = (inner : IsInside delimiters s path t p to) → BracketsFit (brackets_in (in_tag sort path) ls) t → after_symbol ps (symbol_of s (lexeme_at t false p to)) ≡ Some next → Fault delimiters s ⊎ FineHere s ls p t false to

  number_here : Decided Number
  number_here inner brackets leads = by_told (number_report (slice s (span_of p to)) (last_of (tag_tokens ls)) p to) refl
    where
      by_told : (o : Option Report) → number_report (slice s (span_of p to)) (last_of (tag_tokens ls)) p to ≡ o → Fault delimiters s ⊎ FineHere s ls p Number false to
      by_told None e = inr (record { number = λ n. e; index = λ n. absurd cc; string = λ n. absurd cc; value = number_stands (slice s (span_of p to)) (last_of (tag_tokens ls)) p to e })
      by_told (Some told) e = inl (
        told.span,
        told.reason,
        first_at delimiters s p told.span told.reason stage.before wrong_number (record {
          lexemes = ls;
          sort = sort;
          in_path = path;
          reads = stage.reads;
          to = to;
          occurs = inner;
          fits = begins delimiters s texts sort path p ls stage ps next stands Number false to (inr (refl, inner)) brackets leads;
          words = e;
        }) (least delimiters s texts sort path p ls stage ps next stands Number false to (inr (refl, inner)) brackets leads),
      )

  index_here : Decided Index
  index_here inner brackets leads = by_size (nat_lt (index_value (digits_in 10 (slice s (span_of p to)))) (2 ^ 64)) refl
    where
      by_size : (b : Bool) → nat_lt (index_value (digits_in 10 (slice s (span_of p to)))) (2 ^ 64) ≡ b → Fault delimiters s ⊎ FineHere s ls p Index false to
      by_size true e = inr (record { number = λ n. absurd cc; index = λ n. e; string = λ n. absurd cc; value = index_stands s p to inner.extent e })
      by_size false e = inl (
        span_of p to,
        codes "base 10 literal out of range for unsigned 64-bit integer",
        first_at delimiters s p (span_of p to) (codes "base 10 literal out of range for unsigned 64-bit integer") stage.before wrong_index (record {
          lexemes = ls;
          sort = sort;
          in_path = path;
          reads = stage.reads;
          to = to;
          occurs = inner;
          fits = begins delimiters s texts sort path p ls stage ps next stands Index false to (inr (refl, inner)) brackets leads;
          large = e;
          at = refl;
          words = refl;
        }) (least_index delimiters s texts sort path p ls stage ps next stands Index false to (inr (refl, inner)) brackets leads (λ e. cc)),
      )

  string_here : Decided String
  string_here inner brackets leads = by_escape (escape_fault (p + 1) inner.extent.pieces) refl
    where
      by_escape : (o : Option (ℕ × ℕ)) → escape_fault (p + 1) inner.extent.pieces ≡ o → Fault delimiters s ⊎ FineHere s ls p String false to
      by_escape None e = inr (record { number = λ n. absurd cc; index = λ n. absurd cc; string = λ n q. ap (escape_fault (p + 1)) (one_pieces s p to to q inner.extent) ∙ e; value = text_stands s p to inner.extent (p + 1) e })
      by_escape (Some (from, long)) e = inl (
        span_of from (from + long),
        codes "unknown escape character",
        first_at delimiters s p (span_of from (from + long)) (codes "unknown escape character") stage.before wrong_escape (record {
          lexemes = ls;
          sort = sort;
          in_path = path;
          reads = stage.reads;
          to = to;
          occurs = inner;
          string = inner.extent;
          fits = begins delimiters s texts sort path p ls stage ps next stands String false to (inr (refl, inner)) brackets leads;
          from = from;
          long = long;
          escape = e;
          at = refl;
          words = refl;
        }) (least_escape delimiters s texts sort path p ls stage ps next stands String false to (inr (refl, inner)) brackets leads (λ e. cc) (λ e. cc)),
      )

  pub literal_here : (t : Token) → Decided t
  literal_here Number inner brackets leads = number_here inner brackets leads
  literal_here Index inner brackets leads = index_here inner brackets leads
  literal_here String inner brackets leads = string_here inner brackets leads
  literal_here OpenBracket inner brackets leads = inr (record { number = λ n. absurd cc; index = λ n. absurd cc; string = λ n. absurd cc; value = tt })
  literal_here CloseBracket inner brackets leads = inr (record { number = λ n. absurd cc; index = λ n. absurd cc; string = λ n. absurd cc; value = tt })
  literal_here OpenBrace inner brackets leads = inr (record { number = λ n. absurd cc; index = λ n. absurd cc; string = λ n. absurd cc; value = tt })
  literal_here CloseBrace inner brackets leads = inr (record { number = λ n. absurd cc; index = λ n. absurd cc; string = λ n. absurd cc; value = tt })
  literal_here OpenParen inner brackets leads = inr (record { number = λ n. absurd cc; index = λ n. absurd cc; string = λ n. absurd cc; value = tt })
  literal_here CloseParen inner brackets leads = inr (record { number = λ n. absurd cc; index = λ n. absurd cc; string = λ n. absurd cc; value = tt })
  literal_here Dot inner brackets leads = inr (record { number = λ n. absurd cc; index = λ n. absurd cc; string = λ n. absurd cc; value = tt })
  literal_here QuestionDot inner brackets leads = inr (record { number = λ n. absurd cc; index = λ n. absurd cc; string = λ n. absurd cc; value = tt })
  literal_here Pipe inner brackets leads = inr (record { number = λ n. absurd cc; index = λ n. absurd cc; string = λ n. absurd cc; value = tt })
  literal_here Comma inner brackets leads = inr (record { number = λ n. absurd cc; index = λ n. absurd cc; string = λ n. absurd cc; value = tt })
  literal_here Colon inner brackets leads = inr (record { number = λ n. absurd cc; index = λ n. absurd cc; string = λ n. absurd cc; value = tt })
  literal_here Plus inner brackets leads = inr (record { number = λ n. absurd cc; index = λ n. absurd cc; string = λ n. absurd cc; value = tt })
  literal_here Minus inner brackets leads = inr (record { number = λ n. absurd cc; index = λ n. absurd cc; string = λ n. absurd cc; value = tt })
  literal_here Whitespace inner brackets leads = inr (record { number = λ n. absurd cc; index = λ n. absurd cc; string = λ n. absurd cc; value = tt })
  literal_here Keyword inner brackets leads = inr (record { number = λ n. absurd cc; index = λ n. absurd cc; string = λ n. absurd cc; value = tt })
  literal_here Ident inner brackets leads = inr (record { number = λ n. absurd cc; index = λ n. absurd cc; string = λ n. absurd cc; value = tt })
  literal_here Raw inner brackets leads = inr (record { number = λ n. absurd cc; index = λ n. absurd cc; string = λ n. absurd cc; value = tt })
  literal_here BeginExpr inner brackets leads = inr (record { number = λ n. absurd cc; index = λ n. absurd cc; string = λ n. absurd cc; value = tt })
  literal_here EndExpr inner brackets leads = inr (record { number = λ n. absurd cc; index = λ n. absurd cc; string = λ n. absurd cc; value = tt })
  literal_here BeginBlock inner brackets leads = inr (record { number = λ n. absurd cc; index = λ n. absurd cc; string = λ n. absurd cc; value = tt })
  literal_here EndBlock inner brackets leads = inr (record { number = λ n. absurd cc; index = λ n. absurd cc; string = λ n. absurd cc; value = tt })
  literal_here BeginComment inner brackets leads = inr (record { number = λ n. absurd cc; index = λ n. absurd cc; string = λ n. absurd cc; value = tt })
  literal_here EndComment inner brackets leads = inr (record { number = λ n. absurd cc; index = λ n. absurd cc; string = λ n. absurd cc; value = tt })
