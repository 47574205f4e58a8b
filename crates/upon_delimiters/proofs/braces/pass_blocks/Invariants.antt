use Rattle.std.proofs.Common.{◌≤◌, ◌-◌, length}
use Rattle.upon_delimiters.specs.Pairs.{NoPairIn}
use Rattle.upon_delimiters.proofs.braces.pass_blocks.Given as goal

abbrev pub invariant-loop-from : goal.invariant-loop-from
invariant-loop-from l = record {
  after : l.at ≤ l.from;
  within : l.from ≤ length l.bytes;
  none : NoPairIn l.bytes l.at l.from;
}

abbrev pub decreases-loop-from : goal.decreases-loop-from
decreases-loop-from l = length l.bytes - l.from
