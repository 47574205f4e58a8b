use Rattle.std.proofs.Common.{◌≡◌, drop, map}
use Rattle.upon_types.specs.View.{view, vals_view}
use Rattle.upon_calls.specs.Contexts.{read_each, sample_in}
use Rattle.upon_calls.proofs.Each.{read_before}
use Rattle.upon_calls.proofs.contexts.samples_of.Given as goal

-- the samples so far, with those that are left, are all
abbrev pub invariant-loop-item : goal.invariant-loop-item
invariant-loop-item l = read_each sample_in (vals_view l.items) ≡ read_before (map view l.samples.items) (read_each sample_in (vals_view (drop l.item-index l.items)))
