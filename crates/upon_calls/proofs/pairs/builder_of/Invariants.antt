use Rattle.std.proofs.Common.{◌≡◌, drop, is_some}
use Rattle.upon_types.specs.View.{vals_view}
use Rattle.upon_delimiters.specs.Builder.{builder_texts}
use Rattle.upon_delimiters.specs.SetTexts.{nothing_set}
use Rattle.upon_calls.specs.Pairs.{with_pairs}
use Rattle.upon_calls.proofs.pairs.builder_of.Given as goal

-- the pairs so far, with those that are left, are all; and one for expressions is set if it is known
abbrev pub invariant-loop-item : goal.invariant-loop-item
invariant-loop-item l = (with_pairs (vals_view l.triples) nothing_set ≡ with_pairs (vals_view (drop l.item-index l.triples)) (builder_texts l.builder))
    × (l.has_expr ≡ is_some (builder_texts l.builder).expr)
