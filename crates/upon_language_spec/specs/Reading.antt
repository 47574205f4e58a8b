-- What a text reads to before an offset, and what of it counts there: the open tag, its brackets, the open blocks.
use Rattle.std.specs.Prelude.{ℕ, List, [], ◌∷◌, ◌++◌, Bool, true, false, Option, Some, None, if◌then◌else◌}
use Rattle.upon_types.specs.declared.types.Span.{Span}
use Rattle.upon_types.specs.declared.types.token.Token.{Token}
use Rattle.upon_types.specs.declared.types.token.Token.TheVariants.{BeginExpr, BeginBlock, BeginComment, OpenBracket, CloseBracket, OpenBrace, CloseBrace, OpenParen, CloseParen}
use Rattle.upon_language_spec.specs.Search.{DelimiterText}
use Rattle.upon_language_spec.specs.Cut.{Lexeme, Mode, outside, Cut}

-- the text reads to p: it is cut into these tokens, and lies then in this mode
abbrev pub ReadsTo : List DelimiterText → List ℕ → List Lexeme → Mode → ℕ → Type 0
ReadsTo delimiters s ls mode p = Cut delimiters s outside 0 ls mode p

-- whether a token is a begin
abbrev pub opens_tag : Token → Bool
opens_tag BeginExpr = true
opens_tag BeginBlock = true
opens_tag BeginComment = true
opens_tag t = false

-- the tokens from the last begin on
abbrev pub from_begin : List Lexeme → List Lexeme → List Lexeme
from_begin so_far [] = so_far
from_begin so_far (l ∷ ls) = if opens_tag l.token then from_begin (l ∷ []) ls else from_begin (so_far ++ l ∷ []) ls

-- the tokens of the tag that is open after these
abbrev pub open_tag : List Lexeme → List Lexeme
open_tag ls = from_begin [] ls

-- where the open tag begins
abbrev pub first_span : List Lexeme → Option Span
first_span [] = None
first_span (l ∷ ls) = Some l.span

-- the brackets that a token leaves open, innermost first
abbrev pub brackets_after : List Lexeme → Token → Lexeme → List Lexeme
brackets_after stack OpenBracket l = l ∷ stack
brackets_after stack OpenBrace l = l ∷ stack
brackets_after stack OpenParen l = l ∷ stack
brackets_after [] CloseBracket l = []
brackets_after [] CloseBrace l = []
brackets_after [] CloseParen l = []
brackets_after (o ∷ stack) CloseBracket l = stack
brackets_after (o ∷ stack) CloseBrace l = stack
brackets_after (o ∷ stack) CloseParen l = stack
brackets_after stack t l = stack

-- the open brackets after some tokens
abbrev pub brackets_from : List Lexeme → List Lexeme → List Lexeme
brackets_from stack [] = stack
brackets_from stack (l ∷ ls) = brackets_from (brackets_after stack l.token l) ls

-- the open brackets of the open tag, innermost first
abbrev pub open_brackets : List Lexeme → List Lexeme
open_brackets ls = brackets_from [] (open_tag ls)

-- the tokens before the open tag
abbrev pub closed_part : List Lexeme → List Lexeme → List Lexeme → List Lexeme
closed_part done tag [] = done
closed_part done tag (l ∷ ls) = if opens_tag l.token then closed_part (done ++ tag) (l ∷ []) ls else closed_part done
    (tag ++ l ∷ []) ls

-- the tokens before the open tag
abbrev pub before_tag : List Lexeme → List Lexeme
before_tag ls = closed_part [] [] ls

-- the last of the tokens
abbrev pub last_of : List Lexeme → Option Lexeme
last_of [] = None
last_of (l ∷ []) = Some l
last_of (l ∷ k ∷ ls) = last_of (k ∷ ls)
