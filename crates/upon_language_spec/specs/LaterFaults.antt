-- What can be wrong with comments, literals and blocks: each fault, where it is, and what is reported.
use Rattle.std.specs.Prelude.{◌≡◌, ℕ, ◌+◌, ◌^◌, nat_lt, List, [], ◌∷◌, ◌++◌, length, Bool, true, false, Option, Some, None, codes, if◌then◌else◌}
use Rattle.upon_types.specs.declared.types.Span.{Span}
use Rattle.upon_types.specs.declared.types.token.Token.TheVariants.{BeginComment, EndBlock, Plus, Minus, Index, Number, String}
use Rattle.upon_types.specs.Span.{slice}
use Rattle.upon_language_spec.specs.Search.{DelimiterText}
use Rattle.upon_language_spec.specs.Delimiters.{block, comment}
use Rattle.upon_language_spec.specs.Delimiters.{Sort}
use Rattle.upon_language_spec.specs.Inside.{IsQuoted, IsInside}
use Rattle.upon_language_spec.specs.Cut.{Lexeme, outside, in_tag, in_comment, Ends}
use Rattle.upon_language_spec.specs.Literal.{digits_in}
use Rattle.upon_language_spec.specs.LiteralFaults.{NumberFault, bad_digit, too_large, number_fault, is_float, base_text, index_value, escape_fault}
use Rattle.upon_language_spec.specs.Tokens.{significant}
use Rattle.upon_language_spec.specs.Tags.{BeginsTag, IsTag}
use Rattle.upon_language_spec.specs.Wanted.{expected_found, in_quotes, plain_symbol}
use Rattle.upon_language_spec.specs.Reading.{ReadsTo, open_tag, first_span, before_tag, last_of}
use Rattle.upon_types.specs.BlockKinds.{block_word}
use Rattle.upon_language_spec.specs.Blocks.{OpenBlock, Closer, closer_of, takes, open_blocks, outermost, closer_words}
use Rattle.upon_language_spec.specs.Faults.{span_of, tag_tokens, tag_row, lexeme_at}

-- whether a token is the begin of a comment
abbrev pub is_comment_begin : Option Lexeme → Bool
is_comment_begin None = false
is_comment_begin (Some l) = elim l.token [ BeginComment ↦ true | _ ↦ false ]

-- a comment ends where it has just begun
pub record EmptyComment (delimiters : List DelimiterText) (s : List ℕ) (p : ℕ) (span : Span) (reason : List ℕ)
    : Type 0 where
  pub lexemes : List Lexeme
  pub reads : ReadsTo delimiters s lexemes in_comment p
  pub opening : is_comment_begin (last_of lexemes) ≡ true
  pub hyphen : Bool
  pub to : ℕ
  pub ends : Ends delimiters s comment hyphen p to
  pub at : span ≡ span_of p to
  pub words : reason ≡ expected_found (codes "raw template") (codes "end comment")

-- what a comment wants: a raw part right after its begin, then its end
abbrev pub comment_wants : Bool → List ℕ
comment_wants true = codes "raw template"
comment_wants false = codes "end comment"

-- the text ends in a comment
pub record CommentEof (delimiters : List DelimiterText) (s : List ℕ) (p : ℕ) (span : Span) (reason : List ℕ)
    : Type 0 where
  pub lexemes : List Lexeme
  pub reads : ReadsTo delimiters s lexemes in_comment p
  pub eof : p ≡ length s
  pub at : span ≡ span_of p p
  pub words : reason ≡ expected_found (comment_wants (is_comment_begin (last_of lexemes))) (codes "EOF")

-- what is reported: the span and the reason
pub record Report : Type 0 where
  pub span : Span
  pub reason : List ℕ

-- whether a minus is before a number
abbrev pub minus_before : Option Lexeme → Bool
minus_before None = false
minus_before (Some l) = elim l.token [ Minus ↦ true | _ ↦ false ]

-- a literal begins with its sign, if it has one
abbrev pub start_from : Option Lexeme → ℕ → ℕ
start_from None p = p
start_from (Some l) p = elim l.token [ Minus ↦ l.span.m | Plus ↦ l.span.m | _ ↦ p ]

-- the report of what is wrong with a number
abbrev pub number_report_of : List ℕ → ℕ → ℕ → ℕ → Option NumberFault → Option Report
number_report_of base start p n None = None
number_report_of base start p n (Some (bad_digit i)) = Some
    (record {
      span = span_of (p + i) (p + i + 1);
      reason = codes "invalid digit for base " ++
          (base ++ codes " literal");
    })
number_report_of base start p n (Some too_large) = Some
    (record {
      span = span_of start n;
      reason = codes "base " ++
          (base ++ codes " literal out of range for 64-bit integer");
    })

-- the report of a number that denotes no integer, if it is wrong
abbrev pub number_report : List ℕ → Option Lexeme → ℕ → ℕ → Option Report
number_report text before p n = if is_float text then Some
    (record { span = span_of (start_from before p) n; reason = codes "invalid float literal" }) else number_report_of
    (base_text text) (start_from before p) p n (number_fault (minus_before before) text)

-- a number is where one may be, and denotes no integer
pub record WrongNumber (delimiters : List DelimiterText) (s : List ℕ) (p : ℕ) (span : Span) (reason : List ℕ)
    : Type 0 where
  pub lexemes : List Lexeme
  pub sort : Sort
  pub in_path : Bool
  pub reads : ReadsTo delimiters s lexemes (in_tag sort in_path) p
  pub to : ℕ
  pub occurs : IsInside delimiters s in_path Number p to
  pub fits : BeginsTag (tag_row s lexemes ++ plain_symbol Number ∷ [])
  pub words : number_report (slice s (span_of p to)) (last_of (tag_tokens lexemes)) p to ≡ Some
      (record { span = span; reason = reason })

-- an index is where one may be, and is too large
pub record WrongIndex (delimiters : List DelimiterText) (s : List ℕ) (p : ℕ) (span : Span) (reason : List ℕ)
    : Type 0 where
  pub lexemes : List Lexeme
  pub sort : Sort
  pub in_path : Bool
  pub reads : ReadsTo delimiters s lexemes (in_tag sort in_path) p
  pub to : ℕ
  pub occurs : IsInside delimiters s in_path Index p to
  pub fits : BeginsTag (tag_row s lexemes ++ plain_symbol Index ∷ [])
  pub large : nat_lt (index_value (digits_in 10 (slice s (span_of p to)))) (2 ^ 64) ≡ false
  pub at : span ≡ span_of p to
  pub words : reason ≡ codes "base 10 literal out of range for unsigned 64-bit integer"

-- a string is where one may be, and has an escape that is none of the five
pub record WrongEscape (delimiters : List DelimiterText) (s : List ℕ) (p : ℕ) (span : Span) (reason : List ℕ)
    : Type 0 where
  pub lexemes : List Lexeme
  pub sort : Sort
  pub in_path : Bool
  pub reads : ReadsTo delimiters s lexemes (in_tag sort in_path) p
  pub to : ℕ
  pub occurs : IsInside delimiters s in_path String p to
  pub string : IsQuoted s p to
  pub fits : BeginsTag (tag_row s lexemes ++ plain_symbol String ∷ [])
  pub from : ℕ
  pub long : ℕ
  pub escape : escape_fault (p + 1) string.pieces ≡ Some (from, long)
  pub at : span ≡ span_of from (from + long)
  pub words : reason ≡ codes "unknown escape character"

-- a closing tag ends that the innermost open block does not take
pub record UnexpectedBlock (delimiters : List DelimiterText) (s : List ℕ) (p : ℕ) (span : Span) (reason : List ℕ)
    : Type 0 where
  pub lexemes : List Lexeme
  pub in_path : Bool
  pub reads : ReadsTo delimiters s lexemes (in_tag block in_path) p
  pub hyphen : Bool
  pub to : ℕ
  pub ends : Ends delimiters s block hyphen p to
  pub whole : IsTag s (tag_tokens lexemes ++ lexeme_at EndBlock hyphen p to ∷ []) []
  pub closer : Closer
  pub closing : closer_of s (tag_tokens lexemes ++ lexeme_at EndBlock hyphen p to ∷ []) ≡ Some closer
  pub refused : takes (open_blocks s (significant (before_tag lexemes))) closer ≡ false
  pub begin : Span
  pub begins : first_span (open_tag lexemes) ≡ Some begin
  pub at : span ≡ span_of begin.m to
  pub words : reason ≡ codes "unexpected " ++ (in_quotes (closer_words closer) ++ codes " block")

-- the text ends with a block open: the outermost is reported
pub record UnclosedBlock (delimiters : List DelimiterText) (s : List ℕ) (p : ℕ) (span : Span) (reason : List ℕ)
    : Type 0 where
  pub lexemes : List Lexeme
  pub reads : ReadsTo delimiters s lexemes outside p
  pub eof : p ≡ length s
  pub opening : OpenBlock
  pub outer : outermost (open_blocks s (significant lexemes)) ≡ Some opening
  pub at : span ≡ opening.span
  pub words : reason ≡ codes "unclosed " ++ (in_quotes (block_word opening.kind) ++ codes " block")
