use Rattle.std.proofs.Common.{◌≤◌, ◌-◌, List, length}
use Rattle.upon_language_spec.specs.Search.{DelimiterText, HasTexts, NoneFrom}
use Rattle.upon_delimiters.specs.FewBytes.{HaveOneOf}
use Rattle.upon_delimiters.specs.Marks.{MarksEach}
use Rattle.upon_delimiters.proofs.search.next_of_few.Given as goal

abbrev pub invariant-loop-from : goal.invariant-loop-from
invariant-loop-from l = record {
  after : l.at ≤ l.from;
  within : l.from ≤ length l.source;
  none : (delimiters : List DelimiterText) → HasTexts delimiters → HaveOneOf l.few delimiters → MarksEach l.marks delimiters
      → NoneFrom delimiters l.source l.at l.from;
}

abbrev pub decreases-loop-from : goal.decreases-loop-from
decreases-loop-from l = length l.source - l.from
