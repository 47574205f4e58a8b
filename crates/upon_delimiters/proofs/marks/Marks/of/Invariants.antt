use Rattle.std.proofs.Common.{ℕ, ◌<◌, ◌%◌}
use Rattle.upon_language_spec.specs.Search.{text_at}
use Rattle.upon_delimiters.specs.Begins.{MayBeginEach}
use Rattle.upon_delimiters.specs.Marks.{MarksText}
use Rattle.upon_delimiters.specs.Syntax.{syntax_delimiters}
use Rattle.upon_delimiters.proofs.marks.Marks.of.Given as goal

abbrev pub invariant-loop-i : goal.invariant-loop-i
invariant-loop-i l = record {
  texts : (j : ℕ) → j < l.i → MarksText l.marks (j % 16) (text_at (syntax_delimiters l.syntax) j);
  begins : MayBeginEach l.marks.begins (syntax_delimiters l.syntax);
}
