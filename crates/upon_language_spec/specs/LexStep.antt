-- A lexer's next step: the token or the fault where it is, and where it is after the token.
use Rattle.std.specs.Prelude.{◌≡◌, ℕ, ◌&&◌, List, [], true, false, Option, Some, None}
use Rattle.upon_types.specs.declared.types.Span.{Span}
use Rattle.upon_types.specs.declared.types.token.Token.{Token}
use Rattle.upon_types.specs.declared.types.token.Token.TheVariants.{BeginExpr, EndExpr, BeginBlock, EndBlock, BeginComment, EndComment, CloseBracket, CloseBrace, CloseParen}
use Rattle.upon_language_spec.specs.Search.{DelimiterText}
use Rattle.upon_language_spec.specs.Cut.{Lexeme, IsToken, mode_after}
use Rattle.upon_language_spec.specs.Shown.{is_end}
use Rattle.upon_language_spec.specs.Reading.{brackets_after}
use Rattle.upon_language_spec.specs.Faults.{closes_first}
use Rattle.upon_language_spec.specs.FirstFault.{SyntaxFault, Holds}
use Rattle.upon_language_spec.specs.CutFaults.{ends_cutting}
use Rattle.upon_language_spec.specs.Lexing.{LexerState, HasRead}

-- an end of a tag is where no bracket is open, and a closing bracket where the innermost is of its kind
abbrev pub BracketsFit : List Lexeme → Token → Type 0
BracketsFit brackets EndExpr = brackets ≡ []
BracketsFit brackets EndBlock = brackets ≡ []
BracketsFit brackets EndComment = brackets ≡ []
BracketsFit brackets CloseBracket = closes_first brackets CloseBracket ≡ true
BracketsFit brackets CloseBrace = closes_first brackets CloseBrace ≡ true
BracketsFit brackets CloseParen = closes_first brackets CloseParen ≡ true
BracketsFit brackets t = Unit {0}

-- a token is where the lexer does
pub record IsNext (delimiters : List DelimiterText) (s : List ℕ) (left : LexerState) (l : Lexeme) : Type 0 where
  pub from : l.span.m ≡ left.offset
  pub step : IsToken delimiters s left.mode l.token l.hyphen left.offset l.span.n
  pub fits : BracketsFit left.brackets l.token

-- a fault that ends the cutting holds where the lexer is
abbrev pub IsWrong : List DelimiterText → List ℕ → LexerState → Span → List ℕ → Type 0
IsWrong delimiters s left span reason = (ls : List Lexeme) → HasRead delimiters s left ls → (row : SyntaxFault) ×
    (ends_cutting row ≡ true) × Holds delimiters s row left.offset span reason

-- the begin of the open tag after a token
abbrev pub begin_after : Token → Span → Option Span → Option Span
begin_after BeginExpr span begin = Some span
begin_after BeginBlock span begin = Some span
begin_after BeginComment span begin = Some span
begin_after EndExpr span begin = None
begin_after EndBlock span begin = None
begin_after EndComment span begin = None
begin_after t span begin = begin

-- where the lexer is after a token
abbrev pub state_after : LexerState → Lexeme → LexerState
state_after left l = record {
  offset = l.span.n;
  mode = mode_after left.mode l.token;
  begin = begin_after l.token l.span left.begin;
  brackets = brackets_after left.brackets l.token l;
  trims = is_end l.token && l.hyphen;
  over = false;
}
