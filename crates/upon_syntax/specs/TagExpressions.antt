-- Where the expression of a tag is among the tag's tokens.
use Rattle.std.specs.Prelude.{◌≡◌, ℕ, List, ◌++◌, length, false, Option}
use Rattle.upon_types.specs.Expression.{Expression}
use Rattle.upon_language_spec.specs.Cut.{Lexeme}
use Rattle.upon_language_spec.specs.LaterFaults.{minus_before}
use Rattle.upon_tag_parser.specs.TagTokens.{EachTagToken}
use Rattle.upon_tree.specs.Opened.{IsExpressionKnown}

-- after so many of the tokens of a tag, an expression is known to be there
pub record HasExpressionAfter (s : List ℕ) (count : ℕ) (tokens : List Lexeme) (e : Expression) : Type 0 where
  pub read : List Lexeme
  pub left : List Lexeme
  pub splits : tokens ≡ read ++ left
  pub counted : length read ≡ count
  pub known : IsExpressionKnown s e left
  pub previous : Option Lexeme
  pub no_minus : minus_before previous ≡ false
  pub each : EachTagToken s previous left
