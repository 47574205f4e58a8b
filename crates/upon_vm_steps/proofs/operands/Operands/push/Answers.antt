use Rattle.std.proofs.Common.{List, [], ◌∷◌, ◌++◌, ap, ◌∙◌}
use Rattle.upon_types.specs.declared.types.Span.{Span}
use Rattle.upon_types.specs.declared.value.cow.ValueCow.{ValueCow}
use Rattle.upon_vm_steps.proofs.Rows.{pushed}
use Rattle.upon_vm_steps.proofs.operands.Operands.push.Goals as goal

pub returns : goal.returns
returns c =
    let values = c.push_reserved-2.ensures.items ∙ ap (λ (l : List ValueCow). l ++ c.args.value ∷ []) c.reserve-2.ensures.items in
    let spans = c.push_reserved.ensures.items ∙ ap (λ (l : List Span). l ++ c.args.span ∷ []) c.reserve.ensures.items in
    pushed _ _ _ _ _ _ values spans c.args.self.now.paired
