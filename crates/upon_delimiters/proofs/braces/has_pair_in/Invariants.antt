use Rattle.std.proofs.Common.{◌≡◌, ◌+◌, false}
use Rattle.upon_delimiters.specs.Pairs.{NoPairIn}
use Rattle.upon_delimiters.proofs.braces.has_pair_in.Given as goal

abbrev pub invariant-loop-i : goal.invariant-loop-i
invariant-loop-i l = l.has ≡ false → NoPairIn l.bytes l.at (l.at + l.i)
