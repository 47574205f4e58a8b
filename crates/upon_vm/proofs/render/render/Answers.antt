use Rattle.std.proofs.Common.{refl}
use Rattle.upon_render.specs.Stack.{root_of}
use Rattle.upon_vm.proofs.AtStart.{asks_some, machine_of, known_of, some_asking, some_state, starts}
use Rattle.upon_vm.proofs.render.render.Goals as goal

pub run-ended-requires : goal.run-ended-requires
run-ended-requires g c κs =
    let ask_of = g.V.ValueSource.ask in
    let value_state = g.V.ValueSource.value_state in
    let template_state = g.T.ProgramSource.template_state in
    let resolve = g.T.ProgramSource.resolve c.args.templates in
    let callables = g.C.Callables.callables c.args.callables.now in
    let default = g.C.Callables.default_formatter c.args.callables.now in
    let root = root_of c.args.stack in
    let t = c.requires.program.0 in
    let ask = some_asking ask_of root in
    let q = some_state value_state root c.requires.state in
    let m = machine_of c.args.running c.new.result c.new-2.result c.args.stack c.args.templates c.new-3.result in (
      (refl, tt),
      (
        known_of ask_of value_state template_state resolve callables default m c.new.ensures.items refl c.new-2.ensures c.requires.frames t ask q,
        starts ask_of value_state template_state resolve callables default m c.new.ensures.items refl c.new-2.ensures c.requires.frames c.requires.program t ask q c.requires.program.1 (asks_some ask_of root),
      ),
    )

pub returns-clause-ran : goal.returns-clause-ran
returns-clause-ran g c t ask q program asks =
    let ask_of = g.V.ValueSource.ask in
    let value_state = g.V.ValueSource.value_state in
    let template_state = g.T.ProgramSource.template_state in
    let resolve = g.T.ProgramSource.resolve c.args.templates in
    let callables = g.C.Callables.callables c.args.callables.now in
    let default = g.C.Callables.default_formatter c.args.callables.now in
    let m = machine_of c.args.running c.new.result c.new-2.result c.args.stack c.args.templates c.new-3.result in
    let known = known_of ask_of value_state template_state resolve callables default m c.new.ensures.items refl c.new-2.ensures c.requires.frames t ask q in
    let from = starts ask_of value_state template_state resolve callables default m c.new.ensures.items refl c.new-2.ensures c.requires.frames c.requires.program t ask q program asks in
    c.run-ended.ensures.ran known from

pub returns-clause-sources : goal.returns-clause-sources
returns-clause-sources g c =
    let kept = c.run-ended.ensures.kept in
    record { root = kept.root; asks = kept.asks; values_held = kept.values_held; resolve = kept.resolve; templates_held = kept.templates_held }
