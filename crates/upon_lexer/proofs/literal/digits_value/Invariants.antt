use Rattle.std.proofs.Common.{◌≡◌, ◌≤◌, length, drop, ◌-◌}
use Rattle.upon_language_spec.specs.LiteralFaults.{digit_fault}
use Rattle.upon_lexer.proofs.Digits.{SumsFrom}
use Rattle.upon_lexer.proofs.literal.digits_value.Given as goal

abbrev pub invariant-loop-at : goal.invariant-loop-at
invariant-loop-at l = record {
  within : l.at ≤ length l.bytes;
  low : l.value ≤ l.limit;
  sums : SumsFrom l.notation.base l.value (drop l.at l.bytes) (drop l.notation.start l.bytes);
  fault : digit_fault l.notation.base l.limit l.value l.at (drop l.at l.bytes) ≡ digit_fault l.notation.base l.limit 0 l.notation.start (drop l.notation.start l.bytes);
}

abbrev pub decreases-loop-at : goal.decreases-loop-at
decreases-loop-at l = length l.bytes - l.at
