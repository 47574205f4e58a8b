use Rattle.std.proofs.Common.{◌≡◌, ◌++◌, map}
use Rattle.upon_types.specs.View.{view}
use Rattle.upon_std.specs.Cutting.Numbers.{integers_from, range_count}
use Rattle.upon_std.proofs.cutting.numbers.integers.Given as goal

-- the integers so far and then those that are left are all
abbrev pub invariant-loop-number : goal.invariant-loop-number
invariant-loop-number l = map view l.made.items ++ integers_from l.number (range_count l.number l.to) ≡ integers_from l.from (range_count l.from l.to)

abbrev pub decreases-loop-number : goal.decreases-loop-number
decreases-loop-number l = range_count l.number l.to
