use Rattle.std.proofs.Common.{◌≡◌, Err, subst, sym, ap}
use Rattle.upon_functions.specs.Says.{Says}
use Rattle.upon_types.specs.Answers.{wrong_number}
use Rattle.upon_types.specs.AstPath.{ident_of}
use Rattle.upon_lookup.specs.Finding.{at_fault}
use Rattle.upon_meaning_spec.specs.CallFaults.{function_expects}
use Rattle.upon_meaning_spec.specs.Evaluation.{answer_value}
use Rattle.upon_vm_steps.specs.Halt.{GivesFinding}
use Rattle.upon_vm_steps.specs.Operands.{row}
use Rattle.upon_vm_steps.proofs.Reports.{found_halt}
use Rattle.upon_vm_steps.proofs.Rows.{row_length}
use Rattle.upon_vm_steps.proofs.calls.refused.Goals as goal

pub returns-in-Arity : goal.returns-in-Arity
returns-in-Arity c =
    λ a says.
    let n = c.in-Arity.expected in
    let given = row c.args.values.now c.args.spans.now in
    let number : a ≡ wrong_number n = subst (λ r. Says r a) (ap Err c.in-Arity.is) says in
    subst (λ a. GivesFinding (Err c.function_expects.result) (answer_value (ident_of c.args.name.now) c.args.whole given a)) (sym number)
    (subst (λ m. GivesFinding (Err c.function_expects.result) (at_fault (function_expects n m c.args.whole))) (sym (row_length c.args.values.now c.args.spans.now c.requires)) (found_halt _ _ c.function_expects.ensures))
