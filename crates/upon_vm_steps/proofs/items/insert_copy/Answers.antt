use Rattle.std.proofs.Common.{◌≡◌, ◌∷◌, Some, None, IfOk, subst}
use Rattle.std.specs.Prelude.{MatchOption}
use Rattle.upon_types.specs.AstPath.{string_of}
use Rattle.upon_types.specs.Val.{Val}
use Rattle.upon_meaning_spec.specs.Evaluation.{operand}
use Rattle.upon_vm_steps.specs.Items.{with_operand_pair}
use Rattle.upon_vm_steps.specs.Operands.{operands_of}
use Rattle.upon_vm_steps.proofs.items.insert_copy.Goals as goal

pub returns : goal.returns
returns c =
    λ at.
    let was = operands_of c.args.operands.now in
    let P : Val → Type 0 = λ v. IfOk c.insert_into_top.result (λ done. MatchOption done (with_operand_pair (string_of c.args.key.now) (operand v at ∷ was) ≡ None) (λ _. with_operand_pair (string_of c.args.key.now) (operand v at ∷ was) ≡ Some (operands_of c.insert_into_top.new.self))) in
    subst P c.in_ok-try_clone.ensures (c.insert_into_top.ensures at)
