use Rattle.std.proofs.Common.{◌++◌, ap, subst, codes, ◌∙◌}
use Rattle.upon_types.specs.Cause.{argument_text}
use Rattle.upon_types.specs.Val.{kind_word}
use Rattle.upon_types.specs.View.{view}
use Rattle.upon_lookup.specs.LookupFaults.{wrong}
use Rattle.upon_vm_steps.specs.Halt.{IsHalt}
use Rattle.upon_vm_steps.proofs.Reports.{argument_told}
use Rattle.upon_vm_steps.proofs.calls.wrong_type.Goals as goal

pub returns-in-Ok : goal.returns-in-Ok
returns-in-Ok c =
    let argument = c.in-Ok.argument in
    let told = argument_told argument c.args.name.now c.args.word.now (codes " argument, found " ++ kind_word (view c.args.value.now)) c.in-Ok.ensures.function c.in-Ok.ensures.wanted in
    subst (λ text. IsHalt (wrong text c.args.span) c.wrong.result) (ap (λ word. argument_text argument (codes " argument, found " ++ word)) c.kind.ensures ∙ told) c.wrong.ensures
