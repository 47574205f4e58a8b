-- The shown part of a raw part: what is left of it when the hyphens beside it have trimmed it.
use Rattle.std.specs.Prelude.{ℕ, ◌+◌, ◌-◌, ◌&&◌, List, [], ◌∷◌, length, Bool, true, false}
use Rattle.std.specs.Str.{trim_start, trim_end}
use Rattle.upon_types.specs.declared.types.Span.{Span}
use Rattle.upon_types.specs.declared.types.token.Token.{Token}
use Rattle.upon_types.specs.declared.types.token.Token.TheVariants.{Raw, BeginExpr, EndExpr, BeginBlock, EndBlock, BeginComment, EndComment}
use Rattle.upon_types.specs.Span.{slice}
use Rattle.upon_language_spec.specs.Cut.{Lexeme}

-- the span without whitespace at its end
abbrev pub trim_end_span : List ℕ → Span → Span
trim_end_span s span = record { m = span.m; n = span.m + length (trim_end (slice s span)) }

-- the span without whitespace at its start
abbrev pub trim_start_span : List ℕ → Span → Span
trim_start_span s span = record { m = span.n - length (trim_start (slice s span)); n = span.n }

-- a span, trimmed if the first argument is true
abbrev pub trim_if : Bool → (Span → Span) → Span → Span
trim_if true trim span = trim span
trim_if false trim span = span

-- at its end if the begin after it has the hyphen, and then at its start if the end before it has it
abbrev pub shown_span : List ℕ → Bool → Bool → Span → Span
shown_span s end_before begin_behind span = trim_if end_before (trim_start_span s)
    (trim_if begin_behind (trim_end_span s) span)

-- whether a token is a begin
abbrev pub is_begin : Token → Bool
is_begin BeginExpr = true
is_begin BeginBlock = true
is_begin BeginComment = true
is_begin t = false

-- whether a token is an end
abbrev pub is_end : Token → Bool
is_end EndExpr = true
is_end EndBlock = true
is_end EndComment = true
is_end t = false

-- whether the next token is a begin with the hyphen
abbrev pub begin_trims : List Lexeme → Bool
begin_trims [] = false
begin_trims (l ∷ ls) = is_begin l.token && l.hyphen

-- a token with its shown part, if it is raw
abbrev pub shown_lexeme : List ℕ → Bool → Bool → Token → Lexeme → Lexeme
shown_lexeme s end_before begin_behind Raw l = record l { span = shown_span s end_before begin_behind l.span }
shown_lexeme s end_before begin_behind t l = l

-- the tokens with the shown parts of the raw ones; the first argument says whether an end with the hyphen is before
-- them
abbrev pub shown_lexemes : List ℕ → Bool → List Lexeme → List Lexeme
shown_lexemes s end_before [] = []
shown_lexemes s end_before (l ∷ ls) = shown_lexeme s end_before (begin_trims ls) l.token l ∷ shown_lexemes s
    (is_end l.token && l.hyphen) ls
