use Rattle.std.proofs.Common.{◌∙◌, ◌&&◌, ap, not}
use Rattle.upon_types.specs.Weight.{holds}
use Rattle.upon_types.proofs.Weights.{all_bare-ends}
use Rattle.upon_types.proofs.value.ends_are_bare.Goals as goal

pub returns-in-Some-Some : goal.returns-in-Some-Some
returns-in-Some-Some c =
    let first = c.in-Some-Some.first.now in
    let last = c.in-Some-Some.last.now in
    ap (λ b. not b && not c.holds_values-in-Some-Some.result) c.holds_values.ensures
    ∙ ap (λ b. not (holds first) && not b) c.holds_values-in-Some-Some.ensures
    ∙ all_bare-ends c.args.entries.now.entries _ _ first last c.requires c.in-Some-Some.ensures.first c.in-Some-Some.ensures'.last
