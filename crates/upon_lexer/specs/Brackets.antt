-- What the code's shapes of brackets denote, and its open brackets.
use Rattle.std.specs.Prelude.{◌≡◌, List, [], ◌∷◌, false, Option, Some, None}
use Rattle.upon_types.specs.declared.types.Span.{Span}
use Rattle.upon_types.specs.declared.types.token.Token.{Token}
use Rattle.upon_types.specs.declared.types.token.Token.TheVariants as token
use Rattle.upon_language_spec.specs.Cut.{Lexeme}
use Rattle.upon_language_spec.specs.Faults.{is_close}
use Rattle.upon_language_spec.specs.Reading.{brackets_after}
use Rattle.upon_lexer.specs.declared.compile.brackets.Shape.{Shape}
use Rattle.upon_lexer.specs.declared.compile.brackets.Shape.TheVariants.{Bracket, Brace, Paren}
use Rattle.upon_lexer.specs.declared.compile.brackets.OpenBracket.{OpenBracket}
use Rattle.upon_lexer.specs.declared.compile.brackets.BracketEffect.{BracketEffect}
use Rattle.upon_lexer.specs.declared.compile.brackets.BracketEffect.TheVariants.{Opens, Closes, Nothing}

-- the token that opens brackets of a shape
abbrev pub open_token : Shape → Token
open_token Bracket = token.OpenBracket
open_token Brace = token.OpenBrace
open_token Paren = token.OpenParen

-- the token that closes them
abbrev pub close_token : Shape → Token
close_token Bracket = token.CloseBracket
close_token Brace = token.CloseBrace
close_token Paren = token.CloseParen

-- the token opens or closes brackets of this shape, or does nothing to them
abbrev pub HasBracketEffect : Token → BracketEffect → Type 0
HasBracketEffect t (Opens shape) = t ≡ open_token shape
HasBracketEffect t (Closes shape) = t ≡ close_token shape
HasBracketEffect t Nothing = (is_close t ≡ false) × ((stack : List Lexeme) (l : Lexeme) → brackets_after stack t l
    ≡ stack)

-- a token with its span
abbrev pub plain_lexeme : Token → Span → Lexeme
plain_lexeme t span = record { token = t; hyphen = false; span = span }

-- the token that an open bracket is
abbrev pub bracket_lexeme : OpenBracket → Lexeme
bracket_lexeme b = plain_lexeme (open_token b.shape) b.span

-- the innermost bracket is last in the code's list, and first here
abbrev pub open_from : List Lexeme → List OpenBracket → List Lexeme
open_from stack [] = stack
open_from stack (b ∷ bs) = open_from (bracket_lexeme b ∷ stack) bs

-- the code's open brackets, innermost first
abbrev pub brackets_of : List OpenBracket → List Lexeme
brackets_of bs = open_from [] bs

-- the innermost of them
abbrev pub innermost : List Lexeme → Option Lexeme
innermost [] = None
innermost (l ∷ ls) = Some l
