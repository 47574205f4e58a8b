-- The faults that end the cutting, from what a lexer that has read so far finds where it is.
use Rattle.std.proofs.Common.{◌≡◌, ℕ, ◌++◌, List, ◌∷◌, Bool, true, false, Some, codes, inl, inr, refl, sym, ◌∙◌}
use Rattle.upon_types.specs.declared.types.Span.{Span}
use Rattle.upon_types.specs.declared.types.Delimiter.{Delimiter}
use Rattle.upon_types.specs.declared.types.token.Token.{Token}
use Rattle.upon_types.specs.Token.{token_word}
use Rattle.upon_language_spec.specs.Search.{DelimiterText, NoneAt, IsBestDelimiter}
use Rattle.upon_language_spec.specs.Delimiters.{Sort, begin_sort, end_sort, has_hyphen, begin_token, end_token}
use Rattle.upon_language_spec.specs.Cut.{Lexeme, Mode, outside, in_tag, in_comment}
use Rattle.upon_language_spec.specs.Inside.{IsInside}
use Rattle.upon_language_spec.specs.InsideStart.{NoInside}
use Rattle.upon_language_spec.specs.Reading.{first_span, open_tag}
use Rattle.upon_language_spec.specs.Faults.{awaited_sort, span_of, is_close, closes_first}
use Rattle.upon_language_spec.specs.FirstFault.{SyntaxFault, unexpected_end, unclosed_tag, unclosed_bracket, unexpected_close, unexpected_character, undelimited_string, Holds}
use Rattle.upon_language_spec.specs.CutFaults.{ends_cutting}
use Rattle.upon_language_spec.specs.Lexing.{LexerState, HasRead, begin_in}
use Rattle.upon_language_spec.specs.LexStep.{IsWrong}

begun_in : (mode : Mode) (sort : Sort) (ls : List Lexeme) → awaited_sort mode ≡ Some sort → begin_in mode ls ≡ first_span (open_tag ls)
begun_in outside sort ls e = absurd (cc)
begun_in (in_tag other path) sort ls e = refl
begun_in in_comment sort ls e = refl

module _ (delimiters : List DelimiterText) (s : List ℕ) (left : LexerState) where
  -- an end that is not awaited
  pub wrong_end : (kind : Delimiter) (sort : Sort) (to : ℕ) → IsBestDelimiter delimiters s kind left.offset to → end_sort kind ≡ Some sort → (awaited_sort left.mode ≡ Some sort → ⊥) → IsWrong delimiters s left (span_of left.offset to) (codes "unexpected " ++ token_word (end_token sort))
  wrong_end kind sort to stands ends unexpected = λ ls r. (
    unexpected_end,
    refl,
    record {
      lexemes = ls;
      mode = left.mode;
      reads = r.reads;
      sort = sort;
      hyphen = has_hyphen kind;
      to = to;
      ends = record { kind = kind; occurs = stands; of_sort = ends; of_hyphen = refl };
      unexpected = unexpected;
      at = refl;
      words = refl;
    },
  )

  -- a begin where a tag or a comment is open
  pub wrong_begin : (kind : Delimiter) (sort other : Sort) (to : ℕ) (begin : Span) → IsBestDelimiter delimiters s kind left.offset to → begin_sort kind ≡ Some other → awaited_sort left.mode ≡ Some sort → left.begin ≡ Some begin → IsWrong delimiters s left begin (codes "unclosed " ++ token_word (begin_token sort))
  wrong_begin kind sort other to begin stands begins awaits at = λ ls r. (
    unclosed_tag,
    refl,
    record {
      lexemes = ls;
      mode = left.mode;
      reads = r.reads;
      sort = sort;
      awaits = awaits;
      opening = other;
      hyphen = has_hyphen kind;
      to = to;
      begins = record { kind = kind; occurs = stands; of_sort = begins; of_hyphen = refl };
      at = sym (begun_in left.mode sort ls awaits) ∙ r.begin ∙ at;
      words = refl;
    },
  )

  -- the open tag's end where a bracket is open
  pub wrong_bracket : (kind : Delimiter) (sort : Sort) (to : ℕ) (bracket : Lexeme) (others : List Lexeme) → IsBestDelimiter delimiters s kind left.offset to → end_sort kind ≡ Some sort → awaited_sort left.mode ≡ Some sort → left.brackets ≡ bracket ∷ others → IsWrong delimiters s left bracket.span (codes "unclosed " ++ token_word bracket.token)
  wrong_bracket kind sort to bracket others stands ends awaits brackets = λ ls r. by_mode ls r left.mode refl
    where
      by_mode : (ls : List Lexeme) → HasRead delimiters s left ls → (mode : Mode) → left.mode ≡ mode → (row : SyntaxFault) × (ends_cutting row ≡ true) × Holds delimiters s row left.offset bracket.span (codes "unclosed " ++ token_word bracket.token)
      by_mode ls r outside e = let none = rw e at awaits in absurd (cc)
      by_mode ls r in_comment e = let none = rw e at r.brackets in absurd (cc)
      by_mode ls r (in_tag other path) e =
          let same = rw e at awaits in
          let is : other ≡ sort = cc in (
            unclosed_bracket,
            refl,
            record {
              lexemes = ls;
              sort = other;
              in_path = path;
              reads = rw e at r.reads;
              hyphen = has_hyphen kind;
              to = to;
              ends = record { kind = kind; occurs = stands; of_sort = ends ∙ sym same; of_hyphen = refl };
              bracket = bracket;
              others = others;
              brackets = (rw e at r.brackets) ∙ brackets;
              at = refl;
              words = refl;
            },
          )

  -- a closing bracket that is not awaited
  pub wrong_close : (sort : Sort) (path : Bool) (t : Token) (to : ℕ) → left.mode ≡ in_tag sort path → IsInside delimiters s path t left.offset to → is_close t ≡ true → closes_first left.brackets t ≡ false → IsWrong delimiters s left (span_of left.offset to) (codes "unexpected " ++ token_word t)
  wrong_close sort path t to e stands close unmatched = λ ls r. (
    unexpected_close,
    refl,
    record {
      lexemes = ls;
      sort = sort;
      in_path = path;
      reads = rw e at r.reads;
      t = t;
      to = to;
      occurs = stands;
      close = close;
      unmatched = rw (sym (rw e at r.brackets)) at unmatched;
      at = refl;
      words = refl;
    },
  )

  -- nothing begins there
  pub wrong_inside : (sort : Sort) (path : Bool) (place : Span) (reason : List ℕ) → left.mode ≡ in_tag sort path → NoneAt delimiters s left.offset → NoInside s path left.offset place reason → IsWrong delimiters s left place reason
  wrong_inside sort path place reason e bare (inl n) = λ ls r. (
    unexpected_character,
    refl,
    record {
      lexemes = ls;
      sort = sort;
      in_path = path;
      reads = rw e at r.reads;
      bare = bare;
      c = n.c;
      occurs = n.occurs;
      to = n.to;
      nothing = n.nothing;
      at = n.at;
      words = n.words;
    },
  )
  wrong_inside sort path place reason e bare (inr n) = λ ls r. (
    undelimited_string,
    refl,
    record {
      lexemes = ls;
      sort = sort;
      in_path = path;
      reads = rw e at r.reads;
      bare = bare;
      quote = n.quote;
      no_string = n.no_string;
      to = n.to;
      line = n.line;
      at = n.at;
      words = n.words;
    },
  )
