use Rattle.std.proofs.Common.{◌≤◌, ◌-◌, List}
use Rattle.upon_language_spec.specs.Search.{DelimiterText, HasTexts, NoneFrom}
use Rattle.upon_delimiters.specs.Marks.{MarksEach}
use Rattle.upon_delimiters.proofs.marks.Marks.next.Given as goal

abbrev pub invariant-loop-from : goal.invariant-loop-from
invariant-loop-from l = record {
  after : l.at ≤ l.from;
  before : l.from ≤ l.end;
  none : (delimiters : List DelimiterText) → HasTexts delimiters → MarksEach l.self delimiters → NoneFrom delimiters l.source l.at l.from;
}

abbrev pub decreases-loop-from : goal.decreases-loop-from
decreases-loop-from l = l.end - l.from
