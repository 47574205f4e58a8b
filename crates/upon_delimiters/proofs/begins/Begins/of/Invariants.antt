use Rattle.std.proofs.Common.{ℕ, ◌<◌}
use Rattle.upon_language_spec.specs.Search.{text_at}
use Rattle.upon_delimiters.specs.Begins.{BeginsText}
use Rattle.upon_delimiters.specs.Syntax.{syntax_delimiters}
use Rattle.upon_delimiters.proofs.begins.Begins.of.Given as goal

abbrev pub invariant-loop-i : goal.invariant-loop-i
invariant-loop-i l = (j : ℕ) → j < l.i → BeginsText l.begins (text_at (syntax_delimiters l.syntax) j)
