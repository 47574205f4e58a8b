use Rattle.std.proofs.Common.{◌≤◌, ◌-◌, List}
use Rattle.upon_language_spec.specs.Search.{DelimiterText, HasTexts, NoneFrom}
use Rattle.upon_delimiters.specs.Begins.{BeginEach}
use Rattle.upon_delimiters.proofs.begins.Begins.pass.Given as goal

abbrev pub invariant-loop-from : goal.invariant-loop-from
invariant-loop-from l = record {
  after : l.at ≤ l.from;
  before : l.from ≤ l.end;
  none : (delimiters : List DelimiterText) → HasTexts delimiters → BeginEach l.self delimiters → NoneFrom delimiters l.bytes l.at l.from;
}

abbrev pub decreases-loop-from : goal.decreases-loop-from
decreases-loop-from l = l.end - l.from
