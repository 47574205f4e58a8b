use Rattle.std.proofs.Common.{◌≡◌, ◌++◌, map}
use Rattle.upon_types.specs.View.{view}
use Rattle.upon_std.proofs.basic.lists.values_of.Given as goal

-- the values so far and then those that are left are all
abbrev pub invariant-loop-value : goal.invariant-loop-value
invariant-loop-value l = map view l.values.items ++ map (λ e. view e.1) l.value-iterator ≡ map (λ e. view e.1) l.entries.entries
