use Rattle.std.proofs.Common.{SFits, subst, sym, ap, rules, w64, ◌∙◌}
use Rattle.std.proofs.lemmas.Int.{to_z-of_z}
use Rattle.upon_functions.specs.Says.{misfit_of}
use Rattle.upon_types.proofs.Views.{view-Integer}
use Rattle.upon_types.specs.Answers.{out_of_range}
use Rattle.upon_types.specs.Val.{int_val}
use Rattle.upon_types.specs.View.{view}
use Rattle.upon_meaning_spec.specs.CallFaults.{argument_misfits}
use Rattle.upon_vm_steps.specs.Halt.{IsHalt}
use Rattle.upon_vm_steps.proofs.calls.argument_misfits.Goals as goal

pub returns-in-Integer : goal.returns-in-Integer
returns-in-Integer c =
    let number = c.in-Integer.number in
    let fits : SFits w64 number = search rules in
    let back = subst (λ z. IsHalt (argument_misfits c.args.name.now (out_of_range c.in-OutOfRange.word.now) (int_val z) c.args.span) c.number_out_of_range.result) (to_z-of_z w64 number fits) c.number_out_of_range.ensures in
    let is = ap view c.in-Integer.is ∙ view-Integer number in
    subst (λ v. IsHalt (argument_misfits c.args.name.now (misfit_of c.args.error) v c.args.span) c.number_out_of_range.result) (sym is)
    (subst (λ m. IsHalt (argument_misfits c.args.name.now m (int_val number) c.args.span) c.number_out_of_range.result) (sym (ap misfit_of c.in-OutOfRange.is)) back)
