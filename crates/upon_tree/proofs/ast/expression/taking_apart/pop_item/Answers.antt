use Rattle.std.proofs.Common.{◌≡◌, ◌+◌, ◌∙◌, ◌∷◌, [], arith, ap}
use Rattle.upon_tree.specs.Weight.{base_weight, items_weight}
use Rattle.upon_tree.proofs.Weights.{items_weight-append}
use Rattle.upon_tree.proofs.ast.expression.taking_apart.pop_item.Goals as goal

pub returns-in-Some-pop-clause-within : goal.returns-in-Some-pop-clause-within
returns-in-Some-pop-clause-within c =
    let parts : items_weight c.args.items.now.items ≡ items_weight c.pop.new.self.items + (base_weight c.in-Some-pop.item + 0) = ap items_weight c.in-Some-pop.ensures.items ∙ items_weight-append c.pop.new.self.items (c.in-Some-pop.item ∷ []) in
    omega (arith, parts)
