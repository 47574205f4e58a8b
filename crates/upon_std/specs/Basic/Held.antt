-- Which integers a template's values hold.
use Rattle.std.specs.Prelude.{ℤ, ◌&&◌, int_le, codes, if◌then◌else◌}
use Rattle.upon_functions.specs.Integers.{i64_range}
use Rattle.upon_functions.specs.Outcome.{Returned, value, refusal}
use Rattle.upon_types.specs.Val.{int_val}

-- an integer, if 64 bits hold it, else a refusal
abbrev pub held_integer : ℤ → Returned
held_integer z = if int_le i64_range.least z && int_le z i64_range.greatest
    then value (int_val z) else refusal (codes "integer overflow")
