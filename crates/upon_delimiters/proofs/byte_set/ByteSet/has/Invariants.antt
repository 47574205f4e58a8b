use Rattle.std.proofs.Common.{◌≡◌, ℕ, ◌<◌, true, get_or}
use Rattle.upon_delimiters.proofs.byte_set.ByteSet.has.Given as goal

abbrev pub invariant-loop-place : goal.invariant-loop-place
invariant-loop-place l = (k : ℕ) → k < l.place → get_or l.self.bytes k 0 ≡ l.byte → l.found ≡ true
