-- What can be wrong with a text: each fault, where it is, and what is reported.
use Rattle.std.specs.Prelude.{◌≡◌, ◌⊎◌, ℕ, ◌+◌, ◌<◌, ◌≤◌, List, [], ◌∷◌, ◌++◌, length, Bool, true, false, Option, Some, None, slice_index, codes, encode_utf8}
use Rattle.upon_types.specs.declared.types.Span.{Span}
use Rattle.upon_types.specs.declared.types.token.Token.{Token}
use Rattle.upon_types.specs.declared.types.token.Token.TheVariants.{OpenBracket, CloseBracket, OpenBrace, CloseBrace, OpenParen, CloseParen}
use Rattle.upon_types.specs.Token.{token_word}
use Rattle.upon_language_spec.specs.Search.{DelimiterText, Occurs, NoneAt}
use Rattle.upon_language_spec.specs.Delimiters.{Sort, comment, begin_token, end_token}
use Rattle.upon_language_spec.specs.Inside.{token_kind, ends_line, IsQuoted, IsInside}
use Rattle.upon_language_spec.specs.Cut.{Lexeme, Mode, outside, in_tag, in_comment, Begins, Ends, IsToken}
use Rattle.upon_language_spec.specs.Tokens.{without_spaces, is_space}
use Rattle.upon_language_spec.specs.Tags.{Symbol, symbol_of, symbols_of, word_of, BeginsTag}
use Rattle.upon_language_spec.specs.Wanted.{Wanted, IsWanted, reason_for, wanted_at_end, expected_found}
use Rattle.upon_language_spec.specs.Reading.{ReadsTo, open_tag, first_span, open_brackets}
use Rattle.upon_types.specs.Bytes.{quote, question_mark}

-- the span from one offset to another
abbrev pub span_of : ℕ → ℕ → Span
span_of m n = record { m = m; n = n }

-- the sort that is to be ended in a mode
abbrev pub awaited_sort : Mode → Option Sort
awaited_sort outside = None
awaited_sort (in_tag sort in_path) = Some sort
awaited_sort in_comment = Some comment

-- an end is outside tags, or another end than the open tag's
pub record UnexpectedEnd (delimiters : List DelimiterText) (s : List ℕ) (p : ℕ) (span : Span) (reason : List ℕ)
    : Type 0 where
  pub lexemes : List Lexeme
  pub mode : Mode
  pub reads : ReadsTo delimiters s lexemes mode p
  pub sort : Sort
  pub hyphen : Bool
  pub to : ℕ
  pub ends : Ends delimiters s sort hyphen p to
  pub unexpected : awaited_sort mode ≡ Some sort → ⊥
  pub at : span ≡ span_of p to
  pub words : reason ≡ codes "unexpected " ++ token_word (end_token sort)

-- a begin is at a token's start in a tag, or in a comment
pub record UnclosedTag (delimiters : List DelimiterText) (s : List ℕ) (p : ℕ) (span : Span) (reason : List ℕ)
    : Type 0 where
  pub lexemes : List Lexeme
  pub mode : Mode
  pub reads : ReadsTo delimiters s lexemes mode p
  pub sort : Sort
  pub awaits : awaited_sort mode ≡ Some sort
  pub opening : Sort
  pub hyphen : Bool
  pub to : ℕ
  pub begins : Begins delimiters s opening hyphen p to
  pub at : first_span (open_tag lexemes) ≡ Some span
  pub words : reason ≡ codes "unclosed " ++ token_word (begin_token sort)

-- the tag's end comes with a bracket open: the innermost is reported
pub record UnclosedBracket (delimiters : List DelimiterText) (s : List ℕ) (p : ℕ) (span : Span) (reason : List ℕ)
    : Type 0 where
  pub lexemes : List Lexeme
  pub sort : Sort
  pub in_path : Bool
  pub reads : ReadsTo delimiters s lexemes (in_tag sort in_path) p
  pub hyphen : Bool
  pub to : ℕ
  pub ends : Ends delimiters s sort hyphen p to
  pub bracket : Lexeme
  pub others : List Lexeme
  pub brackets : open_brackets lexemes ≡ bracket ∷ others
  pub at : span ≡ bracket.span
  pub words : reason ≡ codes "unclosed " ++ token_word bracket.token

-- whether a closing bracket closes the innermost open one
abbrev pub closes : Token → Token → Bool
closes OpenBracket CloseBracket = true
closes OpenBrace CloseBrace = true
closes OpenParen CloseParen = true
closes opening closing = false

-- whether it closes the first of the open brackets, the innermost
abbrev pub closes_first : List Lexeme → Token → Bool
closes_first [] t = false
closes_first (l ∷ ls) t = closes l.token t

-- whether a token is a closing bracket
abbrev pub is_close : Token → Bool
is_close CloseBracket = true
is_close CloseBrace = true
is_close CloseParen = true
is_close t = false

-- a closing bracket is where no bracket is open, or the innermost is of another kind
pub record UnexpectedClose (delimiters : List DelimiterText) (s : List ℕ) (p : ℕ) (span : Span) (reason : List ℕ)
    : Type 0 where
  pub lexemes : List Lexeme
  pub sort : Sort
  pub in_path : Bool
  pub reads : ReadsTo delimiters s lexemes (in_tag sort in_path) p
  pub t : Token
  pub to : ℕ
  pub occurs : IsInside delimiters s in_path t p to
  pub close : is_close t ≡ true
  pub unmatched : closes_first (open_brackets lexemes) t ≡ false
  pub at : span ≡ span_of p to
  pub words : reason ≡ codes "unexpected " ++ token_word t

-- where a `?` without a dot ends: after the next character, or at the end of the text
abbrev pub EndsQuestion : List ℕ → ℕ → ℕ → Type 0
EndsQuestion s p to = ((p + 1 ≡ length s) × (to ≡ p + 1)) ⊎
    ((d : ℕ) × Occurs s (p + 1) (encode_utf8 d) × (to ≡ p + 1 + length (encode_utf8 d)))

-- the character begins no token: none is of its kind, or it is a `?` without a dot
abbrev pub BeginsNoToken : List ℕ → Bool → ℕ → ℕ → ℕ → Type 0
BeginsNoToken s in_path c p to = ((token_kind in_path c ≡ None) × (to ≡ p + length (encode_utf8 c))) ⊎
    ((c ≡ question_mark) × (Occurs s p (codes "?.") → ⊥) × EndsQuestion s p to)

-- a character is at a token's start that begins none
pub record UnexpectedCharacter (delimiters : List DelimiterText) (s : List ℕ) (p : ℕ) (span : Span) (reason : List ℕ)
    : Type 0 where
  pub lexemes : List Lexeme
  pub sort : Sort
  pub in_path : Bool
  pub reads : ReadsTo delimiters s lexemes (in_tag sort in_path) p
  pub bare : NoneAt delimiters s p
  pub c : ℕ
  pub occurs : Occurs s p (encode_utf8 c)
  pub to : ℕ
  pub nothing : BeginsNoToken s in_path c p to
  pub at : span ≡ span_of p to
  pub words : reason ≡ codes "unexpected character"

-- the line from p on ends at `to`, or the text does
pub record LineEnds (s : List ℕ) (p to : ℕ) : Type 0 where
  pub start : p ≤ to
  pub within : to ≤ length s
  pub none : (q : ℕ) → p ≤ q → q < to → ends_line (slice_index s q) ≡ false
  pub ends : (to ≡ length s) ⊎ ((to < length s) × (ends_line (slice_index s to) ≡ true))

-- a quote is at a token's start, and no string
pub record UndelimitedString (delimiters : List DelimiterText) (s : List ℕ) (p : ℕ) (span : Span) (reason : List ℕ)
    : Type 0 where
  pub lexemes : List Lexeme
  pub sort : Sort
  pub in_path : Bool
  pub reads : ReadsTo delimiters s lexemes (in_tag sort in_path) p
  pub bare : NoneAt delimiters s p
  pub quote : Occurs s p (quote ∷ [])
  pub no_string : (n : ℕ) → IsQuoted s p n → ⊥
  pub to : ℕ
  pub line : LineEnds s p to
  pub at : span ≡ span_of p to
  pub words : reason ≡ codes "undelimited string"

-- the open tag's tokens without whitespace, and as symbols
abbrev pub tag_tokens : List Lexeme → List Lexeme
tag_tokens lexemes = without_spaces (open_tag lexemes)

-- the open tag's tokens without whitespace, as symbols
abbrev pub tag_row : List ℕ → List Lexeme → List Symbol
tag_row s lexemes = symbols_of s (tag_tokens lexemes)

-- a token with the span from one offset to another
abbrev pub lexeme_at : Token → Bool → ℕ → ℕ → Lexeme
lexeme_at t hyphen m n = record { token = t; hyphen = hyphen; span = span_of m n }

-- a token is where the tag wants another
pub record UnexpectedToken (delimiters : List DelimiterText) (s : List ℕ) (p : ℕ) (span : Span) (reason : List ℕ)
    : Type 0 where
  pub lexemes : List Lexeme
  pub sort : Sort
  pub in_path : Bool
  pub reads : ReadsTo delimiters s lexemes (in_tag sort in_path) p
  pub t : Token
  pub hyphen : Bool
  pub to : ℕ
  pub occurs : IsToken delimiters s (in_tag sort in_path) t hyphen p to
  pub counts : is_space t ≡ false
  pub wanted : Wanted
  pub wants : IsWanted (tag_row s lexemes) wanted
  pub stuck : BeginsTag (tag_row s lexemes ++ symbol_of s (lexeme_at t hyphen p to) ∷ []) → ⊥
  pub at : span ≡ span_of p to
  pub words : reason ≡ reason_for wanted t (word_of s t (span_of p to))

-- the text ends in a tag
pub record UnexpectedEof (delimiters : List DelimiterText) (s : List ℕ) (p : ℕ) (span : Span) (reason : List ℕ)
    : Type 0 where
  pub lexemes : List Lexeme
  pub sort : Sort
  pub in_path : Bool
  pub reads : ReadsTo delimiters s lexemes (in_tag sort in_path) p
  pub eof : p ≡ length s
  pub wanted : Wanted
  pub wants : IsWanted (tag_row s lexemes) wanted
  pub at : span ≡ span_of p p
  pub words : reason ≡ expected_found (wanted_at_end wanted) (codes "EOF")
