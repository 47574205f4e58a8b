-- Tokens that lead from some parts to others.
use Rattle.std.specs.Prelude.{◌≡◌, ℕ, List, ◌++◌}
use Rattle.upon_language_spec.specs.Cut.{Lexeme}
use Rattle.upon_language_spec.specs.Tags.{symbols_of}
use Rattle.upon_language_spec.specs.Parts.{Part, Path}

-- the tokens before the rest lead from these parts to those
pub record Leads (s : List ℕ) (from : List Part) (before : List Lexeme) (to : List Part)
    (rest : List Lexeme) : Type 0 where
  pub read : List Lexeme
  pub splits : before ≡ read ++ rest
  pub path : Path from (symbols_of s read) to
