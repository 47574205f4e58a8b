-- The tokens of a tag, as a parser holds them: what is known of each, and what is left of them.
use Rattle.std.specs.Prelude.{◌≡◌, ℕ, List, [], ◌∷◌, ◌++◌, map, Bool, true, false, Option, Some}
use Rattle.upon_types.specs.declared.types.token.Token.{Token}
use Rattle.upon_types.specs.declared.types.token.Token.TheVariants.{Index, Minus, String}
use Rattle.upon_types.specs.Span.{LiesIn, slice}
use Rattle.upon_language_spec.specs.Cut.{Lexeme}
use Rattle.upon_language_spec.specs.Inside.{IsQuoted}
use Rattle.upon_language_spec.specs.Literal.{digits_in}
use Rattle.upon_language_spec.specs.LaterFaults.{minus_before}
use Rattle.upon_language_spec.specs.InTags.{is_inside, FineLiteral}
use Rattle.upon_lexer.specs.declared.literal.Lexed.{Lexed}
use Rattle.upon_lexer.specs.Literals.{lexeme_of}

-- the tokens as the grammar reads them
abbrev pub lexemes_of : List Lexed → List Lexeme
lexemes_of tokens = map lexeme_of tokens

-- whether a token is a minus
abbrev pub is_minus : Token → Bool
is_minus Minus = true
is_minus t = false

-- A token after another one: it may be inside a tag and lies in the text, a string has its quotes and an index its
-- digits, and a literal denotes something.
pub record IsTagToken (s : List ℕ) (before : Option Lexeme) (l : Lexeme) : Type 0 where
  pub inside : is_inside l.token ≡ true
  pub lies : LiesIn s l.span
  pub quoted : l.token ≡ String → IsQuoted s l.span.m l.span.n
  pub digits : l.token ≡ Index → (digits : List ℕ) × (digits_in 10 (slice s l.span) ≡ Some digits)
  pub fine : FineLiteral s before l

-- each token is one, after the token before it
abbrev pub EachTagToken : List ℕ → Option Lexeme → List Lexeme → Type 0
EachTagToken s before [] = Unit {0}
EachTagToken s before (l ∷ ls) = IsTagToken s before l × EachTagToken s (Some l) ls

-- these are tokens of a tag of the text, from some token on that is no minus
pub record AreTagTokens (s : List ℕ) (tokens : List Lexed) : Type 0 where
  pub before : Option Lexeme
  pub no_minus : minus_before before ≡ false
  pub each : EachTagToken s before (lexemes_of tokens)

-- whether the last of the tokens is a minus
abbrev pub minus_last : Bool → List Lexeme → Bool
minus_last so_far [] = so_far
minus_last so_far (l ∷ ls) = minus_last (is_minus l.token) ls

-- the last of the tokens, after some that were read and do not end with a minus
pub record IsRestOf (rest tokens : List Lexeme) : Type 0 where
  pub read : List Lexeme
  pub joins : tokens ≡ read ++ rest
  pub no_minus : minus_last false read ≡ false

-- the last of the code's tokens, after some that were read and do not end with a minus
abbrev pub IsRest : List Lexed → List Lexed → Type 0
IsRest rest tokens = IsRestOf (lexemes_of rest) (lexemes_of tokens)
