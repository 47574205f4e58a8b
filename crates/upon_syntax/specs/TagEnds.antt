-- The tokens inside a tag as a lexer gives them, and where they end.
use Rattle.std.specs.Prelude.{◌≡◌, ◌⊎◌, ℕ, ◌+◌, ◌<◌, ◌≤◌, ◌^◌, nat_lt, List, [], ◌∷◌, ◌++◌, length, Bool, true, false}
use Rattle.std.specs.Prelude.{Option, Some, None, codes}
use Rattle.upon_types.specs.declared.types.Span.{Span}
use Rattle.upon_types.specs.declared.types.token.Token.{Token}
use Rattle.upon_types.specs.declared.types.token.Token.TheVariants.{Index, Number, String}
use Rattle.upon_types.specs.declared.error.Error.{Error}
use Rattle.upon_types.specs.Error.{fault_of}
use Rattle.upon_types.specs.Fault.{Fault, syntax, out_of_memory, bare_fault, fault_with_picture}
use Rattle.upon_types.specs.Span.{LiesIn, slice}
use Rattle.upon_language_spec.specs.Search.{DelimiterText}
use Rattle.upon_language_spec.specs.Delimiters.{Sort, end_token}
use Rattle.upon_language_spec.specs.Cut.{Lexeme, in_tag, Ends}
use Rattle.upon_language_spec.specs.Inside.{IsInside, IsQuoted}
use Rattle.upon_language_spec.specs.Tokens.{is_raw, without_spaces}
use Rattle.upon_language_spec.specs.Literal.{digits_in}
use Rattle.upon_language_spec.specs.LiteralFaults.{index_value, escape_fault}
use Rattle.upon_language_spec.specs.Faults.{span_of, lexeme_at}
use Rattle.upon_language_spec.specs.LaterFaults.{Report, number_report}
use Rattle.upon_language_spec.specs.CutFaults.{ClearTo, IsFirstCutFault}
use Rattle.upon_language_spec.specs.Lexing.{LexerState, HasRead}
use Rattle.upon_language_spec.specs.InTags.{is_inside, EachInside, last_or}
use Rattle.upon_lexer.specs.declared.compile.lex.Lexer.{Lexer}
use Rattle.upon_lexer.specs.Lexers.{lexer_text, lexer_delimiters, lexer_state, ReadSoFar}
use Rattle.upon_lexer.specs.declared.literal.Lexed.{Lexed}
use Rattle.upon_lexer.specs.declared.literal_fault.Refusal.{Refusal}
use Rattle.upon_lexer.specs.LiteralReasons.{report_of}
use Rattle.upon_lexer.specs.Literals.{lexeme_of}
use Rattle.upon_tag_parser.specs.TagTokens.{IsTagToken}
use Rattle.upon_syntax.specs.declared.compile.parse.tag_tokens.Ended.{Ended}
use Rattle.upon_syntax.specs.declared.compile.parse.tag_tokens.Ended.TheVariants.{End, Fault as CutFault, Literal, Eof}

-- the fault of a text that has no tree, with its span and its reason
abbrev pub syntax_fault : List ℕ → Span → List ℕ → Fault
syntax_fault s span reason = fault_with_picture s (bare_fault syntax (Some reason) (Some span))

-- a literal after some token denotes nothing, and this is reported
abbrev pub DenotesNothing : List ℕ → Option Lexeme → Token → Span → Report → Type 0
DenotesNothing s before Number span report = number_report (slice s span) before span.m span.n ≡ Some report
DenotesNothing s before Index span report = (nat_lt (index_value (digits_in 10 (slice s span))) (2 ^ 64) ≡ false)
    × (report ≡ record { span = span; reason = codes "base 10 literal out of range for unsigned 64-bit integer" })
DenotesNothing s before String span report = (string : IsQuoted s span.m span.n) → (from : ℕ) × (long : ℕ)
    × (escape_fault (span.m + 1) string.pieces ≡ Some (from, long))
    × (report ≡ record { span = span_of from (from + long); reason = codes "unknown escape character" })
DenotesNothing s before t span report = ⊥

-- a sign before an offset lies in the text
abbrev pub SignLies : List ℕ → Option Lexeme → ℕ → Type 0
SignLies s None p = Unit {0}
SignLies s (Some l) p = is_raw l.token ≡ false → LiesIn s l.span × (l.span.n ≤ p)

-- a token may not be inside a tag, or is a literal that denotes nothing after the token before it
abbrev pub StopsAt : List ℕ → Option Lexeme → Lexed → Ended → Type 0
StopsAt s before found (End l) = (l ≡ found) × (is_inside l.token ≡ false)
StopsAt s before found (CutFault e) = ⊥
StopsAt s before found (Literal l refusal) = (l ≡ found) × (is_inside l.token ≡ true)
    × DenotesNothing s before l.token l.span (report_of refusal)
StopsAt s before found Eof = ⊥

-- The lexer, which had read some tokens of an open tag, has read on inside it, and is in this state. Whitespace left
-- out, these tokens were read.
pub record ReadsOnTokens (delimiters : List DelimiterText) (s : List ℕ) (sort : Sort) (ls : List Lexeme)
    (left : LexerState)
    (tokens : List Lexeme) : Type 0 where
  pub inner : List Lexeme
  pub each : EachInside inner
  pub path : Bool
  pub mode : left.mode ≡ in_tag sort path
  pub read : HasRead delimiters s left (ls ++ inner)
  pub same : without_spaces inner ≡ tokens

-- whichever tokens were before, inside an open tag these were read from one state to another
abbrev pub ReadsTokens : List DelimiterText → List ℕ → LexerState → LexerState → List Lexeme → Type 0
ReadsTokens delimiters s before after tokens = (sort : Sort) (path : Bool) (ls : List Lexeme)
    → HasRead delimiters s before ls → before.mode ≡ in_tag sort path → ReadsOnTokens delimiters s sort ls after tokens

-- the tag's end is where the lexer was, and it has read it
pub record ReadsEnd (delimiters : List DelimiterText) (s : List ℕ) (sort : Sort) (ls : List Lexeme)
    (left after : LexerState) (l : Lexed) : Type 0 where
  pub hyphen : Bool
  pub ends : Ends delimiters s sort hyphen left.offset l.span.n
  pub of_token : l.token ≡ end_token sort
  pub from : l.span.m ≡ left.offset
  pub read : HasRead delimiters s after (ls ++ lexeme_at (end_token sort) hyphen left.offset l.span.n ∷ [])

-- a literal is where the lexer was, and denotes nothing
pub record ReadsWrong (delimiters : List DelimiterText) (s : List ℕ) (path : Bool) (left : LexerState)
    (before : Option Lexeme) (l : Lexed) (refusal : Refusal) : Type 0 where
  pub inside : IsInside delimiters s path l.token left.offset l.span.n
  pub from : l.span.m ≡ left.offset
  pub clear : ClearTo delimiters s l.span.n
  pub wrong : DenotesNothing s before l.token l.span (report_of refusal)

-- the error reports the fault that ends the text's cutting at this offset, which is the first of them, or that there
-- was no memory
abbrev pub ReportsCut : List DelimiterText → List ℕ → ℕ → Error → Type 0
ReportsCut delimiters s p e = (fault_of e ≡ out_of_memory) ⊎ ((span : Span) × (reason : List ℕ)
    × IsFirstCutFault delimiters s p span reason × (fault_of e ≡ syntax_fault s span reason))

-- why the lexer reads no more inside a tag
abbrev pub EndsBy : List DelimiterText → List ℕ → Sort → List Lexeme → Bool → Option Lexeme → LexerState → LexerState
    → Ended → Type 0
EndsBy delimiters s sort ls path before left after (End l) = ReadsEnd delimiters s sort ls left after l
EndsBy delimiters s sort ls path before left after (CutFault e) = ReportsCut delimiters s left.offset e
EndsBy delimiters s sort ls path before left after (Literal l refusal) = ReadsWrong delimiters s path left before l
    refusal
EndsBy delimiters s sort ls path before left after Eof = left.offset ≡ length s

-- after these tokens the lexer reads no more inside the tag
pub record ReadsUpTo (delimiters : List DelimiterText) (s : List ℕ) (sort : Sort) (ls tokens : List Lexeme)
    (before : Option Lexeme) (after : LexerState) (ended : Ended) : Type 0 where
  pub left : LexerState
  pub reads : ReadsOnTokens delimiters s sort ls left tokens
  pub ends : EndsBy delimiters s sort (ls ++ reads.inner) reads.path before left after ended

-- the spans that are kept of where the tokens end lie in the text
abbrev pub TagEndLies : List ℕ → Ended → Type 0
TagEndLies s (End l) = LiesIn s l.span
TagEndLies s (CutFault e) = Unit {0}
TagEndLies s (Literal l refusal) = LiesIn s l.span × LiesIn s refusal.span
TagEndLies s Eof = Unit {0}

-- the tag's end, if it was read
abbrev pub tag_end : Ended → Option Lexed
tag_end (End l) = Some l
tag_end (CutFault e) = None
tag_end (Literal l refusal) = None
tag_end Eof = None

-- ---- the same, of a lexer
-- the lexer reads the same text as before, over the same delimiters
pub record KeepsText (before after : Lexer) : Type 0 where
  pub text : lexer_text after ≡ lexer_text before
  pub delimiters : lexer_delimiters after ≡ lexer_delimiters before

-- whichever tokens were before, the lexer has read these inside an open tag
abbrev pub ReadsInside : List ℕ → Lexer → Lexer → List Lexeme → Type 0
ReadsInside s before after tokens = ReadsTokens (lexer_delimiters before) s (lexer_state before) (lexer_state after)
    tokens

-- The lexer has found a token inside an open tag, after the previous one: it is a token of a tag, and lies in the text
-- up to the lexer's offset; the lexer has gone further, and whitespace left out has read this token alone.
pub record FindsTagToken (s : List ℕ) (before after : Lexer) (previous : Option Lexeme) (found : Lexed) : Type 0 where
  pub token : IsTagToken s previous (lexeme_of found)
  pub sign : SignLies s (Some (lexeme_of found)) (lexer_state after).offset
  pub further : (lexer_state before).offset < (lexer_state after).offset
  pub inner : ReadsInside s before after (lexeme_of found ∷ [])

-- After the previous token the lexer has read these inside an open tag, and reads no more there; the spans that are
-- kept of where the tokens end lie in the text.
pub record FindsEnd (s : List ℕ) (before after : Lexer) (previous : Option Lexeme) (tokens : List Lexeme)
    (ended : Ended) : Type 0 where
  pub inner : (sort : Sort) (path : Bool) (ls : List Lexeme) → ReadSoFar before ls
      → (lexer_state before).mode ≡ in_tag sort path
      → ReadsUpTo (lexer_delimiters before) s sort ls tokens (last_or previous tokens) (lexer_state after) ended
  pub lies : TagEndLies s ended
