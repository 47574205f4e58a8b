use Rattle.std.proofs.Common.{◌≡◌, ◌+◌, ◌∙◌, [], ◌∷◌, ap, arith}
use Rattle.upon_types.specs.Weight.{bulk, items_bulk, entries_bulk}
use Rattle.upon_types.proofs.Weights.{weight-List, weight-Map, items_weight-append, entries_weight-append}
use Rattle.upon_types.proofs.value.Value.leave.Goals as goal

pub returns-in-Some : goal.returns-in-Some
returns-in-Some c =
    let was : bulk c.args.self ≡ items_bulk c.in-List.items.items + 1 = ap bulk c.in-List.is ∙ weight-List c.in-List.items in
    let parts : items_bulk c.in-List.items.items ≡ items_bulk c.pop.new.self.items + (bulk c.in-Some.outer + 0) = ap items_bulk c.in-Some.ensures.items ∙ items_weight-append c.pop.new.self.items (c.in-Some.outer ∷ []) in
    omega (arith, was, parts, weight-List c.pop.new.self)

pub returns-in-Some-pop_last : goal.returns-in-Some-pop_last
returns-in-Some-pop_last c =
    let was : bulk c.args.self ≡ entries_bulk c.in-Map.entries.entries + 1 = ap bulk c.in-Map.is ∙ weight-Map c.in-Map.entries in
    let parts : entries_bulk c.in-Map.entries.entries ≡ entries_bulk c.pop_last.new.self.entries + (bulk c.in-Some-pop_last.outer + 0) = ap entries_bulk c.in-Some-pop_last.ensures.removal ∙ entries_weight-append c.pop_last.new.self.entries ((c.in-Some-pop_last.key, c.in-Some-pop_last.outer) ∷ []) in
    omega (arith, was, parts, weight-Map c.pop_last.new.self)
