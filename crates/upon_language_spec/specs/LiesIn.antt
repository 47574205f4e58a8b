-- What it says that tokens lie in a text.
use Rattle.std.specs.Prelude.{ℕ, ◌<◌, List, [], ◌∷◌, length, map}
use Rattle.std.specs.Str.{IsUtf8}
use Rattle.upon_types.specs.Span.{LiesIn, slice}
use Rattle.upon_language_spec.specs.Search.{DelimiterText, text_at}
use Rattle.upon_language_spec.specs.Cut.{Lexeme}

-- each delimiter's text is UTF-8
abbrev pub HasUtf8 : List DelimiterText → Type 0
HasUtf8 delimiters = (i : ℕ) → i < length delimiters → IsUtf8 (text_at delimiters i)

-- every token lies in the text, on character boundaries
abbrev pub LexemesLieIn : List ℕ → List Lexeme → Type 0
LexemesLieIn s [] = Unit {0}
LexemesLieIn s (l ∷ ls) = LiesIn s l.span × LexemesLieIn s ls

-- the text of each token
abbrev pub parts : List ℕ → List Lexeme → List (List ℕ)
parts s ls = map (λ (l : Lexeme). slice s l.span) ls
