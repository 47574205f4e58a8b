use Rattle.std.proofs.Common.{◌≡◌}
use Rattle.upon_types.specs.View.{entries_view}
use Rattle.upon_calls.specs.Asked.{are_keys}
use Rattle.upon_calls.proofs.options.check_keys.Given as goal

-- if the keys that are left are options', all are
abbrev pub invariant-loop-key : goal.invariant-loop-key
invariant-loop-key l = are_keys l.known (entries_view l.initial.key-iterator) ≡ are_keys l.known (entries_view l.key-iterator)
