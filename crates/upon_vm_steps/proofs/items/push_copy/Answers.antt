use Rattle.std.proofs.Common.{◌≡◌, ◌∷◌, Some, None, IfOk, subst}
use Rattle.std.specs.Prelude.{MatchOption}
use Rattle.upon_types.specs.Val.{Val}
use Rattle.upon_meaning_spec.specs.Evaluation.{operand}
use Rattle.upon_vm_steps.specs.Items.{with_item}
use Rattle.upon_vm_steps.specs.Operands.{operands_of}
use Rattle.upon_vm_steps.proofs.items.push_copy.Goals as goal

pub returns : goal.returns
returns c =
    λ at.
    let was = operands_of c.args.operands.now in
    let P : Val → Type 0 = λ v. IfOk c.push_to_top.result (λ done. MatchOption done (with_item (operand v at ∷ was) ≡ None) (λ _. with_item (operand v at ∷ was) ≡ Some (operands_of c.push_to_top.new.self))) in
    subst P c.in_ok-try_clone.ensures (c.push_to_top.ensures at)
