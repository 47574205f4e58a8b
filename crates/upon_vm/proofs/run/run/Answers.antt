use Rattle.std.proofs.Common.{◌<◌, ◌∙◌, refl, sym, subst, arith}
use Rattle.upon_render.specs.Roots.{pure_root}
use Rattle.upon_render.specs.Stack.{root_of}
use Rattle.upon_machine_spec.specs.Run.{steps}
use Rattle.upon_vm_steps.specs.Acts.{calls_on, stop_or_memory}
use Rattle.upon_vm.specs.Failures.{FailsBy, StopLies}
use Rattle.upon_vm_steps.specs.Machine.{active_of, state_of}
use Rattle.upon_vm_steps.specs.declared.machine.Running.{Running}
use Rattle.upon_vm_steps.proofs.Keeps.{kept_on}
use Rattle.upon_vm.proofs.OnTheWay.{way_asks, way_ended, way_failed, way_first, way_frames, way_nearer, way_not_stuck, way_on, way_stop}
use Rattle.upon_vm.proofs.Fewer.{fewer}
use Rattle.upon_vm.proofs.run.run.Goals as goal

pub some-left-requires : goal.some-left-requires
some-left-requires g c = let known = c.requires.starts.0 in (known.count, (known, c.requires.starts.1, refl))

pub steps-init : goal.steps-init
steps-init g c =
    let m = c.args.machine.now in
    let calls = calls_on (g.C.Callables.callables c.args.callables.now) (g.C.Callables.default_formatter c.args.callables.now) in
    let resolve = g.T.ProgramSource.resolve m.templates in
    let root = pure_root (root_of m.stack) in
    let some = c.some-left.ensures in
    let s = state_of g.V.ValueSource.value_state g.T.ProgramSource.template_state some.0.values m in
    record {
      same = refl;
      mark = refl;
      kept = record { unbounded = λ h. h; root = refl; asks = λ ask h. h; values_held = λ names h. h; resolve = refl; templates_held = refl };
      going = λ known starts.
          way_first g.V.ValueSource.ask g.V.ValueSource.value_state g.V.ValueSource.holds g.T.ProgramSource.template_state g.T.ProgramSource.resolve g.T.ProgramSource.holds
          (calls known.ask) known.values known.count known.outcome m (g.W.Output.given c.args.out.now)
          (g.T.ProgramSource.templates_lie m.templates) starts.runs starts.lies starts.unbounded starts.asks;
      enough = (
        some.0,
        some.1,
        subst (λ n. steps (calls some.0.ask) resolve root some.0.count s < n) (sym some.2) (fewer (calls some.0.ask) resolve root some.0.count s some.0.outcome some.1.runs),
      );
    }

pub less-left-requires : goal.less-left-requires
less-left-requires g c = let still = c.steps.invariant.enough.2 in omega (arith, still)

pub step-requires : goal.step-requires
step-requires g c κs =
    let h = c.steps.invariant.going c.requires.starts.0 c.requires.starts.1 in
    ((refl, tt), record { spans = h.running.lies.active; unbounded = h.unbounded; frames = way_frames h })

pub end_of-requires : goal.end_of-requires
end_of-requires g c =
    let known = c.requires.starts.0 in
    let h = c.steps.invariant.going known c.requires.starts.1 in
    let did = c.in-Some.ensures.did known.values known.ask (way_asks h) in
    let next = state_of g.V.ValueSource.value_state g.T.ProgramSource.template_state known.values c.step.new.machine in
    way_not_stuck h c.in-Some.flow (g.W.Output.given c.step.new.out) next did

pub stopped-requires : goal.stopped-requires
stopped-requires g c =
    let known = c.requires.starts.0 in
    let h = c.steps.invariant.going known c.requires.starts.1 in
    let did = c.in-None.ensures.did known.values known.ask (way_asks h) in
    let next = state_of g.V.ValueSource.value_state g.T.ProgramSource.template_state known.values c.step.new.machine in
    let stop = stop_or_memory c.step.new.stop in
    subst (λ (running : Running). StopLies running.program.source.now stop) (sym c.in-None.ensures.running)
    (way_stop h stop (g.W.Output.given c.step.new.out) next did)

pub returns-in-None-clause-ran : goal.returns-in-None-clause-ran
returns-in-None-clause-ran g c known starts =
    let h = c.steps.invariant.going known starts in
    let did = c.in-None.ensures.did known.values known.ask (way_asks h) in
    let stop = stop_or_memory c.step.new.stop in
    way_failed h stop c.stopped.result (g.W.Output.given c.step.new.out) c.step.new.machine did
    (subst (λ (running : Running). FailsBy (active_of running).running stop c.stopped.result) c.in-None.ensures.running c.stopped.ensures)

pub returns-in-Some-end_of-clause-ran : goal.returns-in-Some-end_of-clause-ran
returns-in-Some-end_of-clause-ran g c known starts =
    let h = c.steps.invariant.going known starts in
    let did = c.in-Some.ensures.did known.values known.ask (way_asks h) in
    way_ended h c.in-Some.flow c.in-Some-end_of.end (g.W.Output.given c.step.new.out) c.step.new.machine (sym c.end_of.ensures ∙ c.in-Some-end_of.is) did

pub steps-preserved : goal.steps-preserved
steps-preserved g c = record {
  same = c.in-Some.ensures.same ∙ c.steps.invariant.same;
  mark = c.in-Some.ensures.mark ∙ c.steps.invariant.mark;
  kept = kept_on c.steps.invariant.kept c.in-Some.ensures.kept;
  going = λ known starts.
      let h = c.steps.invariant.going known starts in
      let did = c.in-Some.ensures.did known.values known.ask (way_asks h) in
      way_on h c.in-Some.flow (g.W.Output.given c.step.new.out) c.step.new.machine (sym c.end_of.ensures ∙ c.in_default.is) did c.in-Some.ensures.kept;
  enough =
      let before = c.steps.invariant.enough in
      let h = c.steps.invariant.going before.0 before.1 in
      let did = c.in-Some.ensures.did before.0.values before.0.ask (way_asks h) in
      let nearer = way_nearer h c.in-Some.flow (g.W.Output.given c.step.new.out) c.step.new.machine (sym c.end_of.ensures ∙ c.in_default.is) did in
      let still = before.2 in
      let less = c.less-left.ensures in
      (before.0, before.1, omega (arith, nearer, still, less));
}

pub returns-in-None-clause-kept : goal.returns-in-None-clause-kept
returns-in-None-clause-kept g c = kept_on c.steps.invariant.kept c.in-None.ensures.kept

pub returns-in-Some-end_of-clause-kept : goal.returns-in-Some-end_of-clause-kept
returns-in-Some-end_of-clause-kept g c = kept_on c.steps.invariant.kept c.in-Some.ensures.kept

pub steps-smaller : goal.steps-smaller
steps-smaller g c = omega (arith, c.less-left.ensures)
