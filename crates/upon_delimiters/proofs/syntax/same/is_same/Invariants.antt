use Rattle.std.proofs.Common.{ℕ, ◌<◌}
use Rattle.upon_delimiters.specs.Syntax.{syntax_delimiters}
use Rattle.upon_delimiters.proofs.SameDelimiters.{SameAt}
use Rattle.upon_delimiters.proofs.syntax.same.is_same.Given as goal

abbrev pub invariant-loop-i : goal.invariant-loop-i
invariant-loop-i l = (j : ℕ) → j < l.i → SameAt (syntax_delimiters l.a) (syntax_delimiters l.b) j
