use Rattle.std.proofs.Common.{refl, subst, sym}
use Rattle.upon_types.specs.Span.{LiesIn}
use Rattle.upon_render.specs.Stack.{frames_of}
use Rattle.upon_compiler.specs.Program.{instr_of, program_view}
use Rattle.upon_vm_steps.specs.Acts.{NeedsFrames}
use Rattle.upon_vm_steps.specs.Machine.{callers_view}
use Rattle.upon_vm_steps.proofs.SpansLie.{code_spans_at}
use Rattle.upon_vm.proofs.turn.single.Goals as goal

pub act-requires : goal.act-requires
act-requires g c κs =
    let machine = c.args.machine.now in
    let program = machine.running.program in
    let next = c.in-Some.ensures.next in
    let spans = code_spans_at (LiesIn program.source.now) (program_view program.instrs.now) machine.position (instr_of c.in-Some.instr.now) next c.requires.ready.spans in
    let frame = subst (λ i. NeedsFrames i (frames_of machine.stack) (callers_view machine.waiting.items)) (sym next) c.requires.ready.frames in
    ((refl, tt), record { room = c.in-Some.ensures.room; spans = spans; unbounded = c.requires.ready.unbounded; frame = frame })
