-- The frequent tokens inside tags that are found by bytes.
use Rattle.std.specs.Prelude.{◌≡◌, ◌≤◌, ◌⊎◌, ℕ, ◌==◌, List, Bool, true, false, Option, Some, None, if◌then◌else◌}
use Rattle.upon_types.specs.declared.types.token.Token.{Token}
use Rattle.upon_types.specs.declared.types.token.Token.TheVariants.{Dot, Pipe, Comma, Colon, Ident, Keyword, Whitespace}
use Rattle.upon_types.specs.Span.{LiesIn}
use Rattle.upon_language_spec.specs.Cut.{Lexeme}
use Rattle.upon_language_spec.specs.InsideStart.{BeginsInside}
use Rattle.upon_language_spec.specs.LexStep.{BracketsFit}

-- the token that one byte is
abbrev pub byte_token : ℕ → Option Token
byte_token b =
    if b == 46 then Some Dot
    else (if b == 124 then Some Pipe
    else (if b == 44 then Some Comma
    else (if b == 58 then Some Colon else None)))

-- a token is a name, a keyword or one of these marks
abbrev pub is_plain : Token → Bool
is_plain Ident = true
is_plain Keyword = true
is_plain Dot = true
is_plain Pipe = true
is_plain Comma = true
is_plain Colon = true
is_plain t = false

-- or whitespace
abbrev pub is_frequent : Token → Bool
is_frequent Whitespace = true
is_frequent t = is_plain t

-- this token is from m to n, in a path or not, whichever brackets are open
pub record IsPlain (s : List ℕ) (t : Token) (m n : ℕ) : Type 0 where
  pub begins : (in_path : Bool) → BeginsInside s in_path t m n
  pub fits : (brackets : List Lexeme) → BracketsFit brackets t
  pub span : LiesIn s (record { m = m; n = n })

-- a byte is a letter of ASCII or an underscore
abbrev pub IsLetter : ℕ → Type 0
IsLetter b = ((97 ≤ b) × (b ≤ 122)) ⊎ ((65 ≤ b) × (b ≤ 90)) ⊎ (b ≡ 95)
