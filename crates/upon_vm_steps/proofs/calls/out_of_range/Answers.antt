use Rattle.std.proofs.Common.{◌++◌, ap, sym, subst, codes, ◌∙◌}
use Rattle.upon_types.specs.Cause.{argument_text}
use Rattle.upon_types.specs.View.{view}
use Rattle.upon_meaning_spec.specs.CallFaults.{number_text}
use Rattle.upon_lookup.specs.LookupFaults.{wrong}
use Rattle.upon_vm_steps.specs.Halt.{IsHalt}
use Rattle.upon_vm_steps.proofs.Reports.{argument_told}
use Rattle.upon_vm_steps.proofs.calls.out_of_range.Goals as goal

pub returns-in-Ok : goal.returns-in-Ok
returns-in-Ok c =
    let argument = c.in-Ok.argument in
    let told = argument_told argument c.args.name.now c.args.word.now (codes " argument, but `" ++ (number_text (view c.args.value.now) ++ codes "` is out of range")) c.in-Ok.ensures.function c.in-Ok.ensures.wanted in
    let digits = ap (λ digits. argument_text argument (codes " argument, but `" ++ (digits ++ codes "` is out of range"))) (sym c.requires) in
    subst (λ text. IsHalt (wrong text c.args.span) c.wrong.result) (digits ∙ told) c.wrong.ensures
