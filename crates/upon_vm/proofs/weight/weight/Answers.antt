use Rattle.std.proofs.Common.{◌≡◌, ◌∙◌, IfOk, ap, subst}
use Rattle.upon_types.specs.View.{view}
use Rattle.upon_types.specs.Walked.{parts_left}
use Rattle.upon_vm.specs.Weight.{as_count, weight_of, weight_of_parts}
use Rattle.upon_vm.proofs.Weights.{weight_of-pieces}
use Rattle.upon_vm.proofs.weight.weight.Goals as goal

pub returns-in-List : goal.returns-in-List
returns-in-List c =
    let is : weight_of_parts (parts_left c.over.result) ≡ weight_of (view c.args.value.now) = ap weight_of_parts c.over.ensures ∙ weight_of-pieces (view c.args.value.now) in
    subst (λ n. IfOk c.weight_of_walk.result (λ weight. weight ≡ as_count n)) is c.weight_of_walk.ensures
