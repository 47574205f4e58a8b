-- Where the tokens of a tag go no further.
use Rattle.std.specs.Prelude.{◌≡◌, ◌⊎◌, ℕ, List, [], ◌∷◌, true, false, Some, None}
use Rattle.upon_types.specs.Fault.{Fault}
use Rattle.upon_types.specs.Span.{LiesIn}
use Rattle.upon_language_spec.specs.Search.{DelimiterText, HasTexts}
use Rattle.upon_language_spec.specs.Delimiters.{Sort, begin_token, end_token}
use Rattle.upon_language_spec.specs.Cut.{Lexeme, in_tag}
use Rattle.upon_language_spec.specs.Reading.{open_tag}
use Rattle.upon_language_spec.specs.Tags.{symbol_of, word_of}
use Rattle.upon_language_spec.specs.Wanted.{Wanted, reason_for}
use Rattle.upon_language_spec.specs.Parts.{Part, tag_start, after_symbol, wanted_at}
use Rattle.upon_language_spec.specs.PartLeads.{Leads}
use Rattle.upon_language_spec.specs.Lexing.{LexerState}
use Rattle.upon_language_spec.specs.InTags.{last_or, ends_a_tag}
use Rattle.upon_language_spec.specs.Stages.{Stage}
use Rattle.upon_language_spec.specs.OpenParts.{is_open}
use Rattle.upon_lexer.specs.declared.literal.Lexed.{Lexed}
use Rattle.upon_syntax.specs.declared.compile.parse.tag_tokens.Ended.{Ended}
use Rattle.upon_tag_parser.specs.declared.compile.parse.want.Want.{Want}
use Rattle.upon_tag_parser.specs.TagTokens.{lexemes_of, EachTagToken}
use Rattle.upon_tag_parser.specs.TagParsing.{Refuses}
use Rattle.upon_syntax.specs.TagEnds.{syntax_fault, ReadsUpTo, tag_end}
use Rattle.upon_tag_parser.specs.Wants.{wanted_of}

-- the first of the tokens lies in the text
abbrev pub FirstLies : List ℕ → List Lexed → Type 0
FirstLies s [] = Unit {0}
FirstLies s (l ∷ ls) = LiesIn s l.span

-- the fault of a token where another is wanted
abbrev pub token_fault : List ℕ → Wanted → Lexed → Fault
token_fault s wanted l = syntax_fault s l.span (reason_for wanted l.token (word_of s l.token l.span))

-- After these tokens of a text, the last of which is the begin of a tag, from which these parts are to come, the lexer
-- has read the tokens inside.
pub record TagWasRead (delimiters : List DelimiterText) (s : List ℕ) (sort : Sort) (ls : List Lexeme) (from : List Part)
    (tokens : List Lexeme) (after : LexerState) (ended : Ended) : Type 0 where
  pub texts : HasTexts delimiters
  pub of_tag : ends_a_tag (end_token sort) ≡ true
  pub start : ℕ
  pub stage : Stage delimiters s ls (in_tag sort false) start
  pub begin : Lexeme
  pub opened : open_tag ls ≡ begin ∷ []
  pub begins : begin.token ≡ begin_token sort
  pub starts : after_symbol (tag_start ∷ []) (symbol_of s begin) ≡ Some from
  pub still : is_open from ≡ true
  pub each : EachTagToken s None tokens
  pub reads : ReadsUpTo delimiters s sort ls tokens (last_or None tokens) after ended

-- The tokens inside a tag lead to where this word is wanted, and to the tokens left, of which the first may not be
-- there. If none is left, no end of a tag may be there, or none is.
pub record GoesNoFurther (delimiters : List DelimiterText) (s : List ℕ) (want : Want) (left : List Lexed)
    (ended : Ended) : Type 0 where
  pub sort : Sort
  pub ls : List Lexeme
  pub from : List Part
  pub tokens : List Lexeme
  pub after : LexerState
  pub tag : TagWasRead delimiters s sort ls from tokens after ended
  pub to : List Part
  pub leads : Leads s from tokens to (lexemes_of left)
  pub wants : wanted_at to ≡ Some (wanted_of want)
  pub refuses : Refuses s to (lexemes_of left) ⊎ ((left ≡ []) × (tag_end ended ≡ None))
