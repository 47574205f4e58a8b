use Rattle.upon_types.specs.Conversions.{EachConverts}
use Rattle.upon_types.proofs.value.Value.from_items.Given as goal

-- the values so far are what the items so far become
abbrev pub invariant-loop-item : goal.invariant-loop-item
invariant-loop-item g l = EachConverts g.V.Into.converts l.yielded l.values.items
