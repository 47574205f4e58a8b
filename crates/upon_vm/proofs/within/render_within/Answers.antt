use Rattle.std.proofs.Common.{refl, subst}
use Rattle.upon_render.specs.Roots.{pure_root}
use Rattle.upon_render.specs.Stack.{root_of}
use Rattle.upon_meaning_spec.specs.Outcome.{states}
use Rattle.upon_vm_steps.specs.Acts.{calls_on}
use Rattle.upon_vm_steps.specs.Machine.{source_state}
use Rattle.upon_vm.specs.Course.{course}
use Rattle.upon_vm.specs.Within.{RanWithin}
use Rattle.upon_vm.proofs.AtStart.{asks_some, is_at_start, machine_of, known_of, some_asking, some_state, starts}
use Rattle.upon_vm.proofs.within.render_within.Goals as goal

pub run_within-ended-requires : goal.run_within-ended-requires
run_within-ended-requires g c κs =
    let ask_of = g.V.ValueSource.ask in
    let value_state = g.V.ValueSource.value_state in
    let template_state = g.T.ProgramSource.template_state in
    let resolve = g.T.ProgramSource.resolve c.args.templates in
    let callables = g.C.Callables.callables c.args.callables.now in
    let default = g.C.Callables.default_formatter c.args.callables.now in
    let root = root_of c.args.stack in
    let t = c.requires.program.0 in
    let ask = some_asking ask_of root in
    let q = some_state value_state root c.requires.state in
    let m = machine_of c.args.running c.new.result c.new-2.result c.args.stack c.args.templates c.new-3.result in (
      (refl, tt),
      (
        known_of ask_of value_state template_state resolve callables default m c.new.ensures.items refl c.new-2.ensures c.requires.frames t ask q,
        starts ask_of value_state template_state resolve callables default m c.new.ensures.items refl c.new-2.ensures c.requires.frames c.requires.program t ask q c.requires.program.1 (asks_some ask_of root),
      ),
    )

pub returns-clause-ran : goal.returns-clause-ran
returns-clause-ran g c t ask q program asks =
    let ask_of = g.V.ValueSource.ask in
    let value_state = g.V.ValueSource.value_state in
    let template_state = g.T.ProgramSource.template_state in
    let resolve = g.T.ProgramSource.resolve c.args.templates in
    let callables = g.C.Callables.callables c.args.callables.now in
    let default = g.C.Callables.default_formatter c.args.callables.now in
    let root = pure_root (root_of c.args.stack) in
    let m = machine_of c.args.running c.new.result c.new-2.result c.args.stack c.args.templates c.new-3.result in
    let known = known_of ask_of value_state template_state resolve callables default m c.new.ensures.items refl c.new-2.ensures c.requires.frames t ask q in
    let from = starts ask_of value_state template_state resolve callables default m c.new.ensures.items refl c.new-2.ensures c.requires.frames c.requires.program t ask q program asks in
    let given = g.W.Output.given in
    let next = states (source_state value_state q (root_of c.run_within-ended.new.machine.stack)) (template_state c.run_within-ended.new.machine.templates) in
    subst
    (λ s. RanWithin c.args.limits (course (calls_on callables default ask) resolve root s) c.run_within-ended.result (given c.args.out.now) (given c.run_within-ended.new.out) known.outcome next)
    (is_at_start value_state template_state q t m program c.new.ensures.items refl c.new-2.ensures c.requires.frames)
    (c.run_within-ended.ensures.ran known from)

pub returns-clause-sources : goal.returns-clause-sources
returns-clause-sources g c =
    let kept = c.run_within-ended.ensures.kept in
    record { root = kept.root; asks = kept.asks; values_held = kept.values_held; resolve = kept.resolve; templates_held = kept.templates_held }
