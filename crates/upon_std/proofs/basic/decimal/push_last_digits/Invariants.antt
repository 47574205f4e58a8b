use Rattle.std.proofs.Common.{◌≡◌, ◌≤◌, ◌++◌, string_bytes}
use Rattle.upon_std.specs.Basic.Decimal.{last_digits}
use Rattle.upon_std.proofs.basic.decimal.push_last_digits.Given as goal

abbrev pub invariant-loop-left : goal.invariant-loop-left
invariant-loop-left l = record {
  within : l.left ≤ l.places;
  written : string_bytes l.text ++ last_digits l.left l.size ≡ string_bytes l.initial.text ++ last_digits l.places l.size;
}

abbrev pub decreases-loop-left : goal.decreases-loop-left
decreases-loop-left l = l.left
