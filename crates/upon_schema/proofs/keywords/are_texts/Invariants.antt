use Rattle.std.proofs.Common.{◌≡◌, drop}
use Rattle.upon_types.specs.View.{vals_view}
use Rattle.upon_schema.specs.Refused.{each_is, is_text}
use Rattle.upon_schema.proofs.keywords.are_texts.Given as goal

-- the values to come decide
abbrev pub invariant-loop-value : goal.invariant-loop-value
invariant-loop-value l = each_is is_text (vals_view (drop l.value-index l.values)) ≡ each_is is_text (vals_view l.values)
