-- What a lexer gives for all the tokens of a text, one by one, and what trimming leaves of them, taken together.
use Rattle.std.specs.Prelude.{◌≡◌, ℕ, ◌&&◌, List, [], ◌∷◌, Bool, map}
use Rattle.upon_types.specs.declared.types.Span.{Span}
use Rattle.upon_types.specs.declared.types.token.Token.{Token}
use Rattle.upon_language_spec.specs.Search.{DelimiterText}
use Rattle.upon_language_spec.specs.Cut.{Lexeme, Mode, mode_after}
use Rattle.upon_language_spec.specs.Shown.{is_end, shown_lexemes}
use Rattle.upon_language_spec.specs.Lexing.{IsGiven}

-- each token with the span that is given for it; the first arguments say where the first is, and whether an end with
-- the hyphen is before it
abbrev pub EachGiven : List DelimiterText → List ℕ → Mode → Bool → List Lexeme → List (Token × Span) → Type 0
EachGiven delimiters s mode trims [] [] = Unit {0}
EachGiven delimiters s mode trims [] (g ∷ gs) = ⊥
EachGiven delimiters s mode trims (l ∷ ls) [] = ⊥
EachGiven delimiters s mode trims (l ∷ ls) (g ∷ gs) =
    (l.token ≡ g.0) × IsGiven delimiters s mode trims l.token l.span g.1 × EachGiven delimiters s
    (mode_after mode l.token) (is_end l.token && l.hyphen) ls gs

-- the tokens with their shown spans
abbrev pub shown_tokens : List ℕ → Bool → List Lexeme → List (Token × Span)
shown_tokens s trims ls = map (λ (l : Lexeme). (l.token, l.span)) (shown_lexemes s trims ls)
