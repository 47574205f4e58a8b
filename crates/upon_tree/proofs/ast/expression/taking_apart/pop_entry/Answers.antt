use Rattle.std.proofs.Common.{◌≡◌, ◌+◌, ◌∙◌, ◌∷◌, [], arith, ap}
use Rattle.upon_tree.specs.Weight.{base_weight, entries_weight}
use Rattle.upon_tree.proofs.Weights.{entries_weight-append}
use Rattle.upon_tree.proofs.ast.expression.taking_apart.pop_entry.Goals as goal

pub returns-in-Some-pop-clause-within : goal.returns-in-Some-pop-clause-within
returns-in-Some-pop-clause-within c =
    let parts : entries_weight c.args.entries.now.items ≡ entries_weight c.pop.new.self.items + (base_weight c.in-Some-pop.value + 0) = ap entries_weight c.in-Some-pop.ensures.items ∙ entries_weight-append c.pop.new.self.items ((c.in-Some-pop.key, c.in-Some-pop.value) ∷ []) in
    omega (arith, parts)
