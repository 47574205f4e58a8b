use Rattle.std.proofs.Common.{◌≡◌, ℕ, ◌<◌}
use Rattle.upon_language_spec.specs.Search.{text_at}
use Rattle.upon_delimiters.specs.FewBytes.{HasOneOf}
use Rattle.upon_delimiters.specs.Syntax.{syntax_delimiters}
use Rattle.upon_delimiters.proofs.few_bytes.FewBytes.at_place.Given as goal

abbrev pub invariant-loop-i : goal.invariant-loop-i
invariant-loop-i l = record {
  place : l.few.place ≡ l.place;
  each : (j : ℕ) → j < l.i → HasOneOf l.few (text_at (syntax_delimiters l.syntax) j);
}
