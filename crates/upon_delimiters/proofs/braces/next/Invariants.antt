use Rattle.std.proofs.Common.{◌≤◌, ◌-◌, length}
use Rattle.upon_delimiters.proofs.Pairing.{NoPairs}
use Rattle.upon_delimiters.proofs.braces.next.Given as goal

abbrev pub invariant-loop-found : goal.invariant-loop-found
invariant-loop-found l = record {
  after : l.at ≤ l.from;
  within : l.from ≤ length l.source;
  none : NoPairs l.source l.at l.from;
}

abbrev pub decreases-loop-found : goal.decreases-loop-found
decreases-loop-found l = length l.source - l.from
