use Rattle.std.proofs.Common.{◌≡◌, ◌+◌, ◌∙◌, [], ◌∷◌, ap, arith}
use Rattle.upon_types.specs.Weight.{bulk, entries_bulk}
use Rattle.upon_types.proofs.Weights.{entries_weight-append}
use Rattle.upon_types.proofs.value.shed_entries.Goals as goal

pub loop-last-preserved : goal.loop-last-preserved
loop-last-preserved c =
    let parts : entries_bulk c.loop-last.entries.entries ≡ entries_bulk c.pop_last.new.self.entries + (bulk c.in-Some-pop_last.bare + 0) = ap entries_bulk c.in-Some-pop_last.ensures.removal ∙ entries_weight-append c.pop_last.new.self.entries ((c.in-Some-pop_last.key, c.in-Some-pop_last.bare) ∷ []) in
    omega (arith, parts, c.loop-last.invariant)
