-- What a token's kind says of its text and of where it is.
use Rattle.std.specs.Prelude.{◌≡◌, ℕ, ◌≤◌, List, false}
use Rattle.std.specs.Char.{is_ascii_digit}
use Rattle.upon_types.specs.declared.types.Span.{Span}
use Rattle.upon_types.specs.declared.types.token.Token.{Token}
use Rattle.upon_types.specs.declared.types.token.Token.TheVariants.{Index, Number, String}
use Rattle.upon_language_spec.specs.Words.{IsRun}
use Rattle.upon_language_spec.specs.Inside.{continues_number, IsQuoted}
use Rattle.upon_language_spec.specs.Tokens.{is_raw}

-- a string has its quotes, an index is digits, and a number is a run of what numbers are written with
pub record IsSpelled (s : List ℕ) (t : Token) (span : Span) : Type 0 where
  pub quoted : t ≡ String → IsQuoted s span.m span.n
  pub digits : t ≡ Index → IsRun is_ascii_digit s span.m span.n
  pub number : t ≡ Number → IsRun continues_number s span.m span.n

-- a token that is no raw part lies between two offsets
abbrev pub LiesBetween : ℕ → ℕ → Token → Span → Type 0
LiesBetween m n t span = is_raw t ≡ false → (m ≤ span.m) × (span.n ≤ n)
