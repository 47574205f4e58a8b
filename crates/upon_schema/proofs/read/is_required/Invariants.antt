use Rattle.std.proofs.Common.{◌≡◌, drop}
use Rattle.upon_types.specs.View.{vals_view}
use Rattle.upon_schema.specs.Valid.{has_text}
use Rattle.upon_schema.proofs.read.is_required.Given as goal

-- the values to come decide
abbrev pub invariant-loop-value : goal.invariant-loop-value
invariant-loop-value l = has_text l.key (vals_view (drop l.value-index l.required)) ≡ has_text l.key (vals_view l.required)
