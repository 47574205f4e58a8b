use Rattle.std.proofs.Common.{List, subst}
use Rattle.upon_types.specs.AstPath.{ident_of}
use Rattle.upon_meaning_spec.specs.Emission.{callable_outcome}
use Rattle.upon_meaning_spec.specs.Evaluation.{Operand}
use Rattle.upon_vm_steps.specs.Halt.{Emits}
use Rattle.upon_vm_steps.specs.Operands.{row}
use Rattle.upon_vm_steps.proofs.emission.emit_with_one.Goals as goal

pub returns-clause-emitted : goal.returns-clause-emitted
returns-clause-emitted g c =
    let name = c.args.name.now in
    let P : List Operand → Type 0 = λ os. Emits c.emit_with.result (g.W.Output.given c.args.out.now) (g.W.Output.given c.emit_with.new.out) (callable_outcome (g.C.Callables.default_formatter c.args.callables.now) (ident_of name) c.args.whole os (g.C.Callables.callables c.args.callables.now name.name)) in
    subst P (λ i. row (c.from_ref-values.ensures.value i) (c.from_ref-spans.ensures.value i)) c.emit_with.ensures.emitted
