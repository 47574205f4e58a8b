use Rattle.std.proofs.Common.{◌≤◌, ◌-◌, length}
use Rattle.upon_delimiters.specs.Searcher.{searcher_delimiters}
use Rattle.upon_language_spec.specs.Search.{NoneFrom}
use Rattle.upon_delimiters.proofs.search.Searcher.find_at.Given as goal

abbrev pub invariant-loop-offset : goal.invariant-loop-offset
invariant-loop-offset l = record {
  after : l.at ≤ l.offset;
  within : l.offset ≤ length l.source;
  none : NoneFrom (searcher_delimiters l.self) l.source l.at l.offset;
}

abbrev pub decreases-loop-offset : goal.decreases-loop-offset
decreases-loop-offset l = length l.source - l.offset
