use Rattle.std.proofs.Common.{◌≡◌, ◌∷◌, List, Some, None, IfOk, sym, ap, ◌∙◌, subst}
use Rattle.std.specs.Prelude.{MatchOption}
use Rattle.upon_meaning_spec.specs.Evaluation.{Operand, operand}
use Rattle.upon_vm_steps.specs.Items.{with_item}
use Rattle.upon_vm_steps.specs.Operands.{operands_of}
use Rattle.upon_vm_steps.proofs.items.push_item.Goals as goal

pub returns : goal.returns
returns c =
    let span = c.in-Some.field-0-1 in
    let P : List Operand → Type 0 = λ l. IfOk c.push_to_top.result (λ done. MatchOption done (with_item l ≡ None) (λ _. with_item l ≡ Some (operands_of c.push_to_top.new.self))) in
    subst P (ap (λ v. operand v span ∷ operands_of c.pop.new.self) c.in_ok-into_value.ensures ∙ sym c.in-Some.ensures) (c.push_to_top.ensures span)
