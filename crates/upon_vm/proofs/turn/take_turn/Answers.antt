use Rattle.std.proofs.Common.{Some, Err, length, string_bytes, subst, arith}
use Rattle.std.proofs.lemmas.Grind.{common_steps}
use Rattle.std.specs.Io.KnownBytes.{Appends}
use Rattle.upon_render.specs.Roots.{pure_root}
use Rattle.upon_render.specs.Stack.{root_of}
use Rattle.upon_machine_spec.specs.Step.{step}
use Rattle.upon_fmt.specs.Given.{Short}
use Rattle.upon_vm_steps.specs.Acts.{DidAll, calls_on, ended, stop_or_memory}
use Rattle.upon_vm.specs.Limits.{Leaves}
use Rattle.upon_vm_steps.specs.Machine.{state_of}
use Rattle.upon_vm.proofs.Turns.{short_within, turn_cut, turn_stopped}
use Rattle.upon_vm.proofs.turn.take_turn.Goals as goal

pub returns-in-Cut-clause-grows : goal.returns-in-Cut-clause-grows
returns-in-Cut-clause-grows g c =
    let handed = c.in-Cut.ensures.handed in
    short_within c.args.room (g.W.Output.given c.args.out.now) (g.W.Output.given c.hand_on.new.out) c.as_str.result.now handed.0 handed.1

pub returns-in-Cut-clause-did : goal.returns-in-Cut-clause-did
returns-in-Cut-clause-did g c =
    λ q ask has.
    let m = c.args.machine.now in
    let calls = calls_on (g.C.Callables.callables c.args.callables.now) (g.C.Callables.default_formatter c.args.callables.now) ask in
    let x = step calls (g.T.ProgramSource.resolve m.templates) (pure_root (root_of m.stack)) (state_of g.V.ValueSource.value_state g.T.ProgramSource.template_state q m) in
    let t = state_of g.V.ValueSource.value_state g.T.ProgramSource.template_state q c.single-done.new.machine in
    let r = ended c.single-done.result c.single-done.new.stop in
    let old = g.W.Output.given c.args.out.now in
    let new = g.W.Output.given c.hand_on.new.out in
    let text = string_bytes c.single-done.new.out in
    turn_cut x t r text c.args.room old new
    (subst (λ b. DidAll r (Some b) (Some text) x t) c.new-text.ensures.bytes (c.single-done.ensures.did q ask has))
    (subst (Short old new) c.as_str.ensures.value c.in-Cut.ensures.handed.1)

pub returns-clause-did : goal.returns-clause-did
returns-clause-did g c =
    λ q ask has.
    let m = c.args.machine.now in
    let calls = calls_on (g.C.Callables.callables c.args.callables.now) (g.C.Callables.default_formatter c.args.callables.now) ask in
    let x = step calls (g.T.ProgramSource.resolve m.templates) (pure_root (root_of m.stack)) (state_of g.V.ValueSource.value_state g.T.ProgramSource.template_state q m) in
    let t = state_of g.V.ValueSource.value_state g.T.ProgramSource.template_state q c.single-done.new.machine in
    let stop = stop_or_memory c.single-done.new.stop in
    let old = g.W.Output.given c.args.out.now in
    let new = g.W.Output.given c.hand_on.new.out in
    let text = string_bytes c.single-done.new.out in
    let handed = c.in-Whole.ensures.handed in
    turn_stopped x t text c.args.room c.in-Whole.left old new
    (subst (Appends old new) c.as_str.ensures.value handed.1) (subst (λ l. Leaves c.args.room (length l) c.in-Whole.left) c.as_str.ensures.value handed.0)
    stop (stop_or_memory c.told_as_memory.new.stop) c.told_as_memory.ensures
    (subst (λ b. DidAll (Err stop) (Some b) (Some text) x t) c.new-text.ensures.bytes (c.in-None.ensures.did q ask has))

-- the search finds no proof of this, and takes long
pub returns-in-Over-clause-did : goal.returns-in-Over-clause-did
returns-in-Over-clause-did = grind (arith, common_steps)
