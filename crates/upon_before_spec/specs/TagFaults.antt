-- What could be wrong in an open tag before `for .. else`, where tags are asked what may follow.
use Rattle.std.specs.Prelude.{◌≡◌, ℕ, ◌+◌, ◌^◌, nat_lt, List, [], ◌∷◌, ◌++◌, length, Bool, false, Some, codes}
use Rattle.upon_types.specs.declared.types.Span.{Span}
use Rattle.upon_types.specs.declared.types.token.Token.{Token}
use Rattle.upon_types.specs.declared.types.token.Token.TheVariants.{Index, Number, String}
use Rattle.upon_types.specs.Span.{slice}
use Rattle.upon_language_spec.specs.Search.{DelimiterText}
use Rattle.upon_language_spec.specs.Delimiters.{Sort}
use Rattle.upon_language_spec.specs.Inside.{IsQuoted, IsInside}
use Rattle.upon_language_spec.specs.Cut.{in_tag, Lexeme, IsToken}
use Rattle.upon_language_spec.specs.Literal.{digits_in}
use Rattle.upon_language_spec.specs.LiteralFaults.{index_value, escape_fault}
use Rattle.upon_language_spec.specs.Tokens.{is_space}
use Rattle.upon_language_spec.specs.Tags.{symbol_of, word_of}
use Rattle.upon_language_spec.specs.Wanted.{Wanted, expected_found, plain_symbol, wanted_at_end, reason_for}
use Rattle.upon_language_spec.specs.Reading.{ReadsTo, last_of}
use Rattle.upon_language_spec.specs.Faults.{span_of, tag_tokens, tag_row, lexeme_at}
use Rattle.upon_language_spec.specs.LaterFaults.{number_report}
use Rattle.upon_before_spec.specs.Tags.{BeginsTag}
use Rattle.upon_before_spec.specs.Wanted.{IsWanted}

-- a token is where the tag's row wants another
pub record UnexpectedToken (delimiters : List DelimiterText) (s : List ℕ) (p : ℕ) (span : Span) (reason : List ℕ)
    : Type 0 where
  pub lexemes : List Lexeme
  pub sort : Sort
  pub in_path : Bool
  pub reads : ReadsTo delimiters s lexemes (in_tag sort in_path) p
  pub t : Token
  pub hyphen : Bool
  pub to : ℕ
  pub occurs : IsToken delimiters s (in_tag sort in_path) t hyphen p to
  pub counts : is_space t ≡ false
  pub wanted : Wanted
  pub wants : IsWanted (tag_row s lexemes) wanted
  pub stuck : BeginsTag (tag_row s lexemes ++ symbol_of s (lexeme_at t hyphen p to) ∷ []) → ⊥
  pub at : span ≡ span_of p to
  pub words : reason ≡ reason_for wanted t (word_of s t (span_of p to))

-- the text ends in a tag
pub record UnexpectedEof (delimiters : List DelimiterText) (s : List ℕ) (p : ℕ) (span : Span) (reason : List ℕ)
    : Type 0 where
  pub lexemes : List Lexeme
  pub sort : Sort
  pub in_path : Bool
  pub reads : ReadsTo delimiters s lexemes (in_tag sort in_path) p
  pub eof : p ≡ length s
  pub wanted : Wanted
  pub wants : IsWanted (tag_row s lexemes) wanted
  pub at : span ≡ span_of p p
  pub words : reason ≡ expected_found (wanted_at_end wanted) (codes "EOF")

-- a number is where one may be, and denotes no integer
pub record WrongNumber (delimiters : List DelimiterText) (s : List ℕ) (p : ℕ) (span : Span) (reason : List ℕ)
    : Type 0 where
  pub lexemes : List Lexeme
  pub sort : Sort
  pub in_path : Bool
  pub reads : ReadsTo delimiters s lexemes (in_tag sort in_path) p
  pub to : ℕ
  pub occurs : IsInside delimiters s in_path Number p to
  pub fits : BeginsTag (tag_row s lexemes ++ plain_symbol Number ∷ [])
  pub words : number_report (slice s (span_of p to)) (last_of (tag_tokens lexemes)) p to ≡ Some
      (record { span = span; reason = reason })

-- an index is where one may be, and is too large
pub record WrongIndex (delimiters : List DelimiterText) (s : List ℕ) (p : ℕ) (span : Span) (reason : List ℕ)
    : Type 0 where
  pub lexemes : List Lexeme
  pub sort : Sort
  pub in_path : Bool
  pub reads : ReadsTo delimiters s lexemes (in_tag sort in_path) p
  pub to : ℕ
  pub occurs : IsInside delimiters s in_path Index p to
  pub fits : BeginsTag (tag_row s lexemes ++ plain_symbol Index ∷ [])
  pub large : nat_lt (index_value (digits_in 10 (slice s (span_of p to)))) (2 ^ 64) ≡ false
  pub at : span ≡ span_of p to
  pub words : reason ≡ codes "base 10 literal out of range for unsigned 64-bit integer"

-- a string is where one may be, and has an escape that is none of the five
pub record WrongEscape (delimiters : List DelimiterText) (s : List ℕ) (p : ℕ) (span : Span) (reason : List ℕ)
    : Type 0 where
  pub lexemes : List Lexeme
  pub sort : Sort
  pub in_path : Bool
  pub reads : ReadsTo delimiters s lexemes (in_tag sort in_path) p
  pub to : ℕ
  pub occurs : IsInside delimiters s in_path String p to
  pub string : IsQuoted s p to
  pub fits : BeginsTag (tag_row s lexemes ++ plain_symbol String ∷ [])
  pub from : ℕ
  pub long : ℕ
  pub escape : escape_fault (p + 1) string.pieces ≡ Some (from, long)
  pub at : span ≡ span_of from (from + long)
  pub words : reason ≡ codes "unknown escape character"
