use Rattle.std.proofs.Common.{List, subst}
use Rattle.upon_types.specs.AstPath.{ident_of}
use Rattle.upon_meaning_spec.specs.Evaluation.{Operand, call_value}
use Rattle.upon_vm_steps.specs.Halt.{GivesFinding}
use Rattle.upon_vm_steps.specs.Operands.{row}
use Rattle.upon_vm_steps.proofs.calls.call_on.Goals as goal

pub returns : goal.returns
returns g c =
    let P : List Operand → Type 0 = λ os. GivesFinding c.call.result (call_value (ident_of c.args.name.now) c.args.whole os (g.C.Callables.callables c.args.callables.now c.args.name.now.name)) in
    subst P (λ i. row (c.from_ref-values.ensures.value i) (c.from_ref-spans.ensures.value i)) c.call.ensures
