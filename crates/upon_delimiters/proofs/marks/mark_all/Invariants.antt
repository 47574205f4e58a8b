use Rattle.std.proofs.Common.{ℕ, ◌<◌}
use Rattle.upon_delimiters.specs.Marks.{HasMark}
use Rattle.upon_delimiters.proofs.marks.mark_all.Given as goal

abbrev pub invariant-loop-byte : goal.invariant-loop-byte
invariant-loop-byte l = record {
  marked : (b : ℕ) → b < l.byte → HasMark l.table b l.bit;
  kept : (b c : ℕ) → HasMark l.fn.table b c → HasMark l.table b c;
}
