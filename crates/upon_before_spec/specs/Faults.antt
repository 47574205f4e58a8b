-- Which fault of a text was reported before `for .. else`: an open `for` took no `else`.
use Rattle.std.specs.Prelude.{◌≡◌, ℕ, List, [], ◌∷◌, ◌++◌, length, Bool, false, Some, codes}
use Rattle.upon_types.specs.declared.types.Span.{Span}
use Rattle.upon_types.specs.declared.types.token.Token.TheVariants.{EndBlock}
use Rattle.upon_language_spec.specs.Search.{DelimiterText}
use Rattle.upon_language_spec.specs.Delimiters.{block}
use Rattle.upon_language_spec.specs.Cut.{Lexeme, outside, in_tag, Ends}
use Rattle.upon_language_spec.specs.Tokens.{significant}
use Rattle.upon_language_spec.specs.Wanted.{in_quotes}
use Rattle.upon_language_spec.specs.Reading.{ReadsTo, open_tag, first_span, before_tag}
use Rattle.upon_language_spec.specs.Faults.{span_of, tag_tokens, lexeme_at}
use Rattle.upon_language_spec.specs.FirstFault.{SyntaxFault, unexpected_token, unexpected_eof, wrong_number, wrong_index, wrong_escape, unexpected_block, unclosed_block, Holds as HoldsNow, NotAfter}
use Rattle.upon_before_spec.specs.Tags.{IsTag}
use Rattle.upon_before_spec.specs.Blocks.{OpenBlock, Closer, plain_else, for_block, closer_of, takes, open_blocks, outermost, block_word, closer_words}
use Rattle.upon_before_spec.specs.TagFaults.{UnexpectedToken, UnexpectedEof, WrongNumber, WrongIndex, WrongEscape}

-- a closing tag ends that the innermost open block does not take
pub record UnexpectedBlock (delimiters : List DelimiterText) (s : List ℕ) (p : ℕ) (span : Span) (reason : List ℕ)
    : Type 0 where
  pub lexemes : List Lexeme
  pub in_path : Bool
  pub reads : ReadsTo delimiters s lexemes (in_tag block in_path) p
  pub hyphen : Bool
  pub to : ℕ
  pub ends : Ends delimiters s block hyphen p to
  pub whole : IsTag s (tag_tokens lexemes ++ lexeme_at EndBlock hyphen p to ∷ []) []
  pub closer : Closer
  pub closing : closer_of s (tag_tokens lexemes ++ lexeme_at EndBlock hyphen p to ∷ []) ≡ Some closer
  pub refused : takes (open_blocks s (significant (before_tag lexemes))) closer ≡ false
  pub begin : Span
  pub begins : first_span (open_tag lexemes) ≡ Some begin
  pub at : span ≡ span_of begin.m to
  pub words : reason ≡ codes "unexpected " ++ (in_quotes (closer_words closer) ++ codes " block")

-- the text ends with a block open: the outermost is reported
pub record UnclosedBlock (delimiters : List DelimiterText) (s : List ℕ) (p : ℕ) (span : Span) (reason : List ℕ)
    : Type 0 where
  pub lexemes : List Lexeme
  pub reads : ReadsTo delimiters s lexemes outside p
  pub eof : p ≡ length s
  pub opening : OpenBlock
  pub outer : outermost (open_blocks s (significant lexemes)) ≡ Some opening
  pub at : span ≡ opening.span
  pub words : reason ≡ codes "unclosed " ++ (in_quotes (block_word opening.kind) ++ codes " block")

-- the row held in the text at the point p, with this span and reason: where it is of tags or of blocks as here, the
-- others as today
abbrev pub Holds : List DelimiterText → List ℕ → SyntaxFault → ℕ → Span → List ℕ → Type 0
Holds delimiters s unexpected_token p span reason = UnexpectedToken delimiters s p span reason
Holds delimiters s unexpected_eof p span reason = UnexpectedEof delimiters s p span reason
Holds delimiters s wrong_number p span reason = WrongNumber delimiters s p span reason
Holds delimiters s wrong_index p span reason = WrongIndex delimiters s p span reason
Holds delimiters s wrong_escape p span reason = WrongEscape delimiters s p span reason
Holds delimiters s unexpected_block p span reason = UnexpectedBlock delimiters s p span reason
Holds delimiters s unclosed_block p span reason = UnclosedBlock delimiters s p span reason
Holds delimiters s fault p span reason = HoldsNow delimiters s fault p span reason

-- the text's first fault, with its span and its reason
pub record IsFirstFault (delimiters : List DelimiterText) (s : List ℕ) (span : Span) (reason : List ℕ) : Type 0 where
  pub fault : SyntaxFault
  pub point : ℕ
  pub holds : Holds delimiters s fault point span reason
  pub first : (other : SyntaxFault) (q : ℕ) (its_span : Span) (its_reason : List ℕ)
      → Holds delimiters s other q its_span its_reason → NotAfter fault point other q

-- the fault was an `else` in a `for` that had none yet
pub record ElseInFor (delimiters : List DelimiterText) (s : List ℕ) (span : Span) (reason : List ℕ) : Type 0 where
  pub point : ℕ
  pub fault : UnexpectedBlock delimiters s point span reason
  pub else_tag : fault.closer ≡ plain_else
  pub innermost : OpenBlock
  pub around : List OpenBlock
  pub blocks : open_blocks s (significant (before_tag fault.lexemes)) ≡ innermost ∷ around
  pub is_for : innermost.kind ≡ for_block
  pub no_else_yet : innermost.has_else ≡ false
