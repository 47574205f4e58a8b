use Rattle.std.proofs.Common.{ap, sym, subst, ◌∙◌}
use Rattle.upon_functions.specs.Says.{Says}
use Rattle.upon_types.specs.AstPath.{ident_of}
use Rattle.upon_meaning_spec.specs.Evaluation.{call_value, values_of}
use Rattle.upon_vm_steps.specs.Halt.{GivesFinding}
use Rattle.upon_vm_steps.specs.Operands.{row}
use Rattle.upon_vm_steps.proofs.Rows.{of_row}
use Rattle.upon_vm_steps.proofs.calls.call.Goals as goal

pub returns-in-Function : goal.returns-in-Function
returns-in-Function g c =
    let did = c.in-Function.ensures {u = tt} in
    let operands = row c.args.values.now c.args.spans.now in
    let denoted = sym (ap (g.C.Callables.callables c.args.callables.now) c.as_str.ensures) ∙ did.1 in
    subst (λ callable. GivesFinding c.report.result (call_value (ident_of c.args.name.now) c.args.whole operands callable)) (sym denoted)
    (c.report.ensures (did.0 (values_of operands)) (of_row (λ a. Says c.in-Function.answer a) did.0 c.args.values.now c.args.spans.now c.requires did.2))
