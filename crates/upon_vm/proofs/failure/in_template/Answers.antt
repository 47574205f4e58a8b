use Rattle.std.proofs.Common.{◌≡◌, ◌∙◌, false, refl, ap, inl, inr, subst}
use Rattle.upon_types.specs.Error.{fault_of}
use Rattle.upon_types.specs.Fault.{fault_with_picture, OrMemory}
use Rattle.upon_types.specs.declared.error.Error.{Error as CodeError}
use Rattle.upon_meaning_spec.specs.Meaning.{RunningTemplate, fault_in}
use Rattle.upon_vm_steps.specs.Halt.{halt_fault, halt_kind}
use Rattle.upon_vm_steps.specs.declared.fault.Fault.{Fault}
use Rattle.upon_vm_steps.specs.declared.fault.FaultKind.{FaultKind}
use Rattle.upon_vm_steps.specs.declared.fault.FaultKind.TheVariants.{Render, Function, Format}
use Rattle.upon_vm.specs.Failures.{Names, is_memory}
use Rattle.upon_vm_steps.specs.Machine.{active_of}
use Rattle.upon_vm.proofs.failure.in_template.Goals as goal

no_memory : (kind : FaultKind) → is_memory (halt_kind kind) ≡ false
no_memory Render = refl
no_memory Function = refl
no_memory Format = refl

named_in : (running : RunningTemplate) (f : Fault) (shown named : CodeError) → OrMemory (fault_with_picture running.source (halt_fault f)) (fault_of shown)
    → Names running.name shown named → OrMemory (fault_in running (halt_fault f)) (fault_of named)
named_in running f shown named (inl is) names =
    subst (λ g. OrMemory (record g { name = running.name }) (fault_of named)) is
    (names.named (ap (λ g. is_memory g.kind) is ∙ no_memory f.kind) (ap (λ g. g.name) is))
named_in running f shown named (inr memory) names = inr (names.memory memory)

pub returns : goal.returns
returns c = named_in (active_of c.args.running).running c.args.fault c.with_picture-error.result c.with_name.result c.with_picture-error.ensures c.with_name.ensures
