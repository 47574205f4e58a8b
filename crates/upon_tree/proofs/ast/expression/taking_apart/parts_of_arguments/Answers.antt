use Rattle.std.proofs.Common.{◌≡◌, ◌+◌, ℕ, arith, ap, ◌∙◌}
use Rattle.upon_tree.specs.Weight.{items_weight, maybe_weight}
use Rattle.upon_tree.proofs.Weights.{weight-Args}
use Rattle.upon_tree.proofs.ast.expression.taking_apart.parts_of_arguments.Goals as goal

pub returns-in-Some : goal.returns-in-Some
returns-in-Some c =
    let was : maybe_weight c.args.args ≡ items_weight c.in-Some.args.values.items + 1 = ap maybe_weight c.in-Some.is ∙ ap (λ (n : ℕ). n + 1) (weight-Args _) in
    let is : items_weight c.in-Some.args.values.items + 2 ≡ maybe_weight c.args.args + 1 = omega (arith, was) in
    is
