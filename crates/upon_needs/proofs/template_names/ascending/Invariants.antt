use Rattle.std.proofs.Common.{◌≡◌, ◌++◌}
use Rattle.upon_needs.proofs.template_names.ascending.Given as goal

abbrev pub invariant-loop-name : goal.invariant-loop-name
invariant-loop-name l = l.sorted.items ++ l.name-iterator ≡ l.fn.names.keys
