use Rattle.std.proofs.Common.{◌≡◌, drop}
use Rattle.upon_types.specs.View.{vals_view}
use Rattle.upon_needs.specs.Names.{texts}
use Rattle.upon_calls.specs.Arguments.{its_text}
use Rattle.upon_calls.specs.Contexts.{read_each}
use Rattle.upon_calls.proofs.Each.{read_before}
use Rattle.upon_calls.proofs.contexts.names_of.Given as goal

-- the names so far, with those that are left, are all
abbrev pub invariant-loop-item : goal.invariant-loop-item
invariant-loop-item l = read_each its_text (vals_view l.items) ≡ read_before (texts l.names.items) (read_each its_text (vals_view (drop l.item-index l.items)))
