use Rattle.std.proofs.Common.{ℕ, ◌<◌}
use Rattle.memchr.specs.Find.{Passes, is_byte2}
use Rattle.upon_delimiters.proofs.braces.first_brace.Given as goal

abbrev pub invariant-loop-i : goal.invariant-loop-i
invariant-loop-i l = (q : ℕ) → q < l.i → Passes (is_byte2 123 125) l.bytes q → ⊥
