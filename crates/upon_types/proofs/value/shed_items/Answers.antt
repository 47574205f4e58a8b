use Rattle.std.proofs.Common.{◌≡◌, ◌+◌, ◌∙◌, [], ◌∷◌, ap, sym, arith, rules, vec_len, ◌-◌}
use Rattle.upon_types.specs.Weight.{bulk, items_bulk, all_bare}
use Rattle.upon_types.proofs.Weights.{items_weight-append, all_bare-append, all_bare-holder}
use Rattle.upon_types.proofs.value.shed_items.Goals as goal

pub loop-last-preserved : goal.loop-last-preserved
loop-last-preserved c =
    let parts : items_bulk c.loop-last.items.items ≡ items_bulk c.pop.new.self.items + (bulk c.in-Some-pop.bare + 0) = ap items_bulk c.in-Some-pop.ensures.items ∙ items_weight-append c.pop.new.self.items (c.in-Some-pop.bare ∷ []) in
    let same = ap all_bare c.in-Some-pop.ensures.items ∙ all_bare-append c.pop.new.self.items c.in-Some-pop.bare (search rules) in
    (omega (arith, parts, c.loop-last.invariant.0), sym same ∙ c.loop-last.invariant.1)

pub returns-then-holds_values-clause-left : goal.returns-then-holds_values-clause-left
returns-then-holds_values-clause-left c some =
    let items = c.loop-last.items in
    sym c.loop-last.invariant.1 ∙ all_bare-holder items.items (vec_len items - 1) c.in-Some.last.now (omega (arith, some)) (search rules)
