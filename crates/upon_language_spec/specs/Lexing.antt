-- How far a lexer has read a text, and what its next call gives.
use Rattle.std.specs.Prelude.{◌≡◌, ◌⊎◌, ℕ, ◌&&◌, List, [], ◌∷◌, ◌++◌, length, Bool, true, false, Option, Some, None, Result, Ok, Err}
use Rattle.upon_types.specs.declared.types.Span.{Span}
use Rattle.upon_types.specs.declared.types.token.Token.{Token}
use Rattle.upon_types.specs.declared.types.token.Token.TheVariants.{Raw, OpenBracket, OpenBrace, OpenParen}
use Rattle.upon_types.specs.declared.error.Error.{Error}
use Rattle.upon_types.specs.Error.{fault_of}
use Rattle.upon_types.specs.Fault.{syntax, out_of_memory, bare_fault, fault_with_picture, OrMemory}
use Rattle.upon_language_spec.specs.Search.{DelimiterText}
use Rattle.upon_language_spec.specs.Cut.{Lexeme, Mode, outside, in_tag, in_comment, Begins, IsToken}
use Rattle.upon_language_spec.specs.Delimiters.{Sort}
use Rattle.upon_language_spec.specs.Shown.{shown_span, is_end}
use Rattle.upon_language_spec.specs.Tokens.{is_space}
use Rattle.upon_language_spec.specs.Reading.{ReadsTo, open_tag, first_span, open_brackets, last_of}
use Rattle.upon_language_spec.specs.CutFaults.{NoCutFault, ClearTo, IsFirstCutFault}

-- where a lexer is, and what counts for what comes next
pub record LexerState : Type 0 where
  pub offset : ℕ
  pub mode : Mode
  -- where the open tag or comment begins
  pub begin : Option Span
  -- the open brackets, innermost first
  pub brackets : List Lexeme
  -- whether the token before is an end with the hyphen
  pub trims : Bool
  -- whether it has refused the text
  pub over : Bool

-- the span of the begin of the open tag, if one is open
abbrev pub begin_in : Mode → List Lexeme → Option Span
begin_in outside ls = None
begin_in mode ls = first_span (open_tag ls)

-- the open brackets of the open tag
abbrev pub brackets_in : Mode → List Lexeme → List Lexeme
brackets_in outside ls = []
brackets_in in_comment ls = []
brackets_in (in_tag sort in_path) ls = open_brackets ls

-- whether a token is an end with the hyphen
abbrev pub is_trimming_end : Option Lexeme → Bool
is_trimming_end None = false
is_trimming_end (Some l) = is_end l.token && l.hyphen

-- these are the tokens before the lexer's offset, and up to there no fault ends the cutting
pub record HasRead (delimiters : List DelimiterText) (s : List ℕ) (left : LexerState) (ls : List Lexeme) : Type 0 where
  pub reads : ReadsTo delimiters s ls left.mode left.offset
  pub clear : ClearTo delimiters s left.offset
  pub begin : begin_in left.mode ls ≡ left.begin
  pub brackets : brackets_in left.mode ls ≡ left.brackets
  pub trims : is_trimming_end (last_of ls) ≡ left.trims
  pub not_over : left.over ≡ false

-- whether a begin with the hyphen is at an offset
abbrev pub TrimsAt : List DelimiterText → List ℕ → ℕ → Bool → Type 0
TrimsAt delimiters s p true = (sort : Sort) × (to : ℕ) × Begins delimiters s sort true p to
TrimsAt delimiters s p false = (sort : Sort) (to : ℕ) → Begins delimiters s sort true p to → ⊥

-- the span that is given for a token: of a raw part outside tags the shown part
abbrev pub IsGiven : List DelimiterText → List ℕ → Mode → Bool → Token → Span → Span → Type 0
IsGiven delimiters s outside trims Raw span given = (begin_behind : Bool) × TrimsAt delimiters s span.n begin_behind
    × (given ≡ shown_span s trims begin_behind span)
IsGiven delimiters s mode trims t span given = given ≡ span

-- whether a token opens a bracket
abbrev pub opens_bracket : Token → Bool
opens_bracket OpenBracket = true
opens_bracket OpenBrace = true
opens_bracket OpenParen = true
opens_bracket t = false

-- an opening bracket is the token where the lexer is
abbrev pub OpensBracket : List DelimiterText → List ℕ → LexerState → Type 0
OpensBracket delimiters s left = (t : Token) × (hyphen : Bool) × (to : ℕ)
    × IsToken delimiters s left.mode t hyphen left.offset to × (opens_bracket t ≡ true)

-- The error reports the fault that ends the cutting where the lexer is, which is the first, or that there was no
-- memory to say it; or
-- a bracket opens there, and there was no memory to keep it.
abbrev pub IsCutError : List DelimiterText → List ℕ → LexerState → Error → Type 0
IsCutError delimiters s left e =
    ((span : Span) × (reason : List ℕ) × IsFirstCutFault delimiters s left.offset span reason × OrMemory
    (fault_with_picture s (bare_fault syntax (Some reason) (Some span))) (fault_of e))
    ⊎ (OpensBracket delimiters s left × (fault_of e ≡ out_of_memory))

-- What a call gives to one who knows the tokens before: the next token, or that the text is at its end and no fault
-- ends its cutting, or the first such fault.
abbrev pub Lexes : List DelimiterText → List ℕ → LexerState → List Lexeme → Result (Option (Token × Span)) Error
    → LexerState → Type 0
Lexes delimiters s before ls (Ok (Some given)) after =
    (l : Lexeme) × (l.token ≡ given.0) × IsGiven delimiters s before.mode before.trims l.token l.span given.1
    × HasRead delimiters s after (ls ++ l ∷ [])
Lexes delimiters s before ls (Ok None) after = (before.offset ≡ length s) × ((q : ℕ) → NoCutFault delimiters s q)
    × HasRead delimiters s after ls
Lexes delimiters s before ls (Err e) after = IsCutError delimiters s before e

-- each token is whitespace
abbrev pub EachIsSpace : List Lexeme → Type 0
EachIsSpace [] = Unit {0}
EachIsSpace (l ∷ ls) = (is_space l.token ≡ true) × EachIsSpace ls

-- a token that is given is no whitespace
abbrev pub IsNoSpace : Result (Option (Token × Span)) Error → Type 0
IsNoSpace (Ok (Some given)) = is_space given.0 ≡ false
IsNoSpace (Ok None) = Unit {0}
IsNoSpace (Err e) = Unit {0}

-- what a call gives after tokens that are whitespace: a token that is not whitespace, no token, or an error
pub record LexesAfterSpace (delimiters : List DelimiterText) (s : List ℕ) (ls : List Lexeme)
    (result : Result (Option (Token × Span)) Error) (after : LexerState) : Type 0 where
  pub spaces : List Lexeme
  pub each : EachIsSpace spaces
  pub start : LexerState
  pub gives : Lexes delimiters s start (ls ++ spaces) result after
  pub has_read : HasRead delimiters s start (ls ++ spaces)
  pub counts : IsNoSpace result
