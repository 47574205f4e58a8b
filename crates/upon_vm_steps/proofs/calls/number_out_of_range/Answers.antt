use Rattle.std.proofs.Common.{◌++◌, Some, subst, codes, w64}
use Rattle.std.proofs.lemmas.Int.{to_z-of_z}
use Rattle.std.specs.Fmt.{signed_decimal}
use Rattle.upon_types.specs.Cause.{cause_text}
use Rattle.upon_types.specs.declared.error.cause.Cause.TheVariants.{OutOfRange}
use Rattle.upon_lookup.specs.LookupFaults.{wrong}
use Rattle.upon_vm_steps.specs.Halt.{IsHalt}
use Rattle.upon_vm_steps.proofs.Reports.{argument_told}
use Rattle.upon_vm_steps.proofs.calls.number_out_of_range.Goals as goal

pub returns-in-Ok : goal.returns-in-Ok
returns-in-Ok c =
    let argument = c.in-Ok.argument in
    let number = c.args.number in
    let told = argument_told argument c.args.name.now c.args.word.now (codes " argument, but `" ++ (signed_decimal number ++ codes "` is out of range")) c.in-Ok.ensures.function c.in-Ok.ensures.wanted in
    let said : IsHalt (wrong (cause_text (OutOfRange argument (Some number))) c.args.span) c.wrong.result =
    subst (λ number. IsHalt (wrong (cause_text (OutOfRange argument (Some number))) c.args.span) c.wrong.result) (to_z-of_z w64 number c.ranges.number) c.wrong.ensures in
    subst (λ text. IsHalt (wrong text c.args.span) c.wrong.result) told said
