use Rattle.std.proofs.Common.{◌<◌, ◌∙◌, [], refl, sym, subst, arith}
use Rattle.std.proofs.KnownBytes.{Appends-nil}
use Rattle.std.proofs.lemmas.Grind.{common_steps}
use Rattle.upon_render.specs.Roots.{pure_root}
use Rattle.upon_render.specs.Stack.{root_of}
use Rattle.upon_machine_spec.specs.Run.{steps}
use Rattle.upon_vm_steps.specs.Acts.{calls_on, stop_or_memory}
use Rattle.upon_vm_steps.specs.Machine.{state_of}
use Rattle.upon_vm.specs.Lending.{lending_of}
use Rattle.upon_vm.proofs.Fewer.{fewer}
use Rattle.upon_vm_steps.proofs.Keeps.{kept_on}
use Rattle.upon_vm.proofs.Turns.{leaves_most}
use Rattle.upon_vm.proofs.WithinWay.{leaves_all}
use Rattle.upon_vm.proofs.WithinTurns.{WayWithin, counts_on, grown_on, grown_so, grown_stop, grown_within, within_asks, within_ended, within_failed, within_first, within_frames, within_memory, within_nearer, within_not_stuck, within_on, within_room, within_steps, within_stop, within_unweighed, within_values}
use Rattle.upon_vm.proofs.within.run_within.Goals as goal

pub some-left-requires : goal.some-left-requires
some-left-requires g c = let known = c.requires.starts.0 in (known.count, (known, c.requires.starts.1, refl))

pub turns-init : goal.turns-init
turns-init g c =
    let m = c.args.machine.now in
    let calls = calls_on (g.C.Callables.callables c.args.callables.now) (g.C.Callables.default_formatter c.args.callables.now) in
    let resolve = g.T.ProgramSource.resolve m.templates in
    let root = pure_root (root_of m.stack) in
    let some = c.some-left.ensures in
    let s = state_of g.V.ValueSource.value_state g.T.ProgramSource.template_state some.0.values m in
    record {
      same = refl;
      mark = refl;
      kept = record { unbounded = λ h. h; root = refl; asks = λ ask h. h; values_held = λ names h. h; resolve = refl; templates_held = refl };
      grown = ([], leaves_all c.args.limits.output, Appends-nil (g.W.Output.given c.args.out.now));
      going = λ known starts.
          subst
          (λ made. WayWithin
          g.V.ValueSource.ask g.V.ValueSource.value_state g.V.ValueSource.holds g.T.ProgramSource.template_state g.T.ProgramSource.resolve g.T.ProgramSource.holds
          (calls known.ask) known.values known.count known.outcome c.args.limits m c.args.limits.steps c.args.limits.output made (lending_of c.new-account.result.lending)
          (g.W.Output.given c.args.out.now) (g.W.Output.given c.args.out.now) m)
          (sym c.new-account.ensures.made)
          (subst
          (λ lending. WayWithin
          g.V.ValueSource.ask g.V.ValueSource.value_state g.V.ValueSource.holds g.T.ProgramSource.template_state g.T.ProgramSource.resolve g.T.ProgramSource.holds
          (calls known.ask) known.values known.count known.outcome c.args.limits m c.args.limits.steps c.args.limits.output 0 lending
          (g.W.Output.given c.args.out.now) (g.W.Output.given c.args.out.now) m)
          (sym c.new-account.ensures.lending)
          (within_first g.V.ValueSource.ask g.V.ValueSource.value_state g.V.ValueSource.holds g.T.ProgramSource.template_state g.T.ProgramSource.resolve g.T.ProgramSource.holds
          (calls known.ask) known.values known.count known.outcome c.args.limits m (g.W.Output.given c.args.out.now)
          (g.T.ProgramSource.templates_lie m.templates) starts.runs starts.lies starts.unbounded starts.asks));
      enough = (
        some.0,
        some.1,
        subst (λ n. steps (calls some.0.ask) resolve root some.0.count s < n) (sym some.2) (fewer (calls some.0.ask) resolve root some.0.count s some.0.outcome some.1.runs),
      );
    }

pub less-left-requires : goal.less-left-requires
less-left-requires g c = let still = c.turns.invariant.enough.2 in omega (arith, still)

pub take_turn-requires : goal.take_turn-requires
take_turn-requires g c κs =
    let h = c.turns.invariant.going c.requires.starts.0 c.requires.starts.1 in
    ((refl, tt), record { spans = h.spent.lies.active; unbounded = h.unbounded; frames = within_frames h })

pub at_limit-requires : goal.at_limit-requires
at_limit-requires g c =
    let h = c.turns.invariant.going c.requires.starts.0 c.requires.starts.1 in h.spent.lies.active

pub at_limit-requires-in-Over : goal.at_limit-requires-in-Over
at_limit-requires-in-Over g c =
    let h = c.turns.invariant.going c.requires.starts.0 c.requires.starts.1 in h.spent.lies.active

pub end_of-requires : goal.end_of-requires
end_of-requires g c =
    let known = c.requires.starts.0 in
    let h = c.turns.invariant.going known c.requires.starts.1 in
    let did = c.in-Went.ensures.did known.values known.ask (within_asks h) in
    let next = state_of g.V.ValueSource.value_state g.T.ProgramSource.template_state known.values c.take_turn.new.machine in
    within_not_stuck h c.in-Went.flow c.in-Went.rest (stop_or_memory c.take_turn.new.stop) (g.W.Output.given c.take_turn.new.out) next did

pub stopped-requires : goal.stopped-requires
stopped-requires g c =
    let known = c.requires.starts.0 in
    let h = c.turns.invariant.going known c.requires.starts.1 in
    let did = c.in-Stopped.ensures.did known.values known.ask (within_asks h) in
    let next = state_of g.V.ValueSource.value_state g.T.ProgramSource.template_state known.values c.take_turn.new.machine in
    within_stop h (stop_or_memory c.take_turn.new.stop) (g.W.Output.given c.take_turn.new.out) next did

pub returns-in_default-clause-ran : goal.returns-in_default-clause-ran
returns-in_default-clause-ran g c known starts =
    let h = c.turns.invariant.going known starts in
    let here = state_of g.V.ValueSource.value_state g.T.ProgramSource.template_state known.values c.turns.machine in
    within_steps h c.at_limit.result here.asked c.in_default.ensures c.at_limit.ensures

pub returns-in_default-clause-bounded : goal.returns-in_default-clause-bounded
returns-in_default-clause-bounded g c = grown_so c.args.limits.output c.turns.room (g.W.Output.given c.args.out.now) (g.W.Output.given c.turns.out) c.turns.invariant.grown

pub returns-in-Over-clause-bounded : goal.returns-in-Over-clause-bounded
returns-in-Over-clause-bounded g c =
    grown_within c.args.limits.output c.turns.room (g.W.Output.given c.args.out.now) (g.W.Output.given c.turns.out) (g.W.Output.given c.take_turn.new.out) c.turns.invariant.grown c.in-Over.ensures.grows

pub returns-in-Over-clause-ran : goal.returns-in-Over-clause-ran
returns-in-Over-clause-ran g c known starts =
    let h = c.turns.invariant.going known starts in
    let did = c.in-Over.ensures.did known.values known.ask (within_asks h) in
    let next = state_of g.V.ValueSource.value_state g.T.ProgramSource.template_state known.values c.take_turn.new.machine in
    within_room h (stop_or_memory c.take_turn.new.stop) c.at_limit-in-Over.result (g.W.Output.given c.take_turn.new.out) next next.asked did c.at_limit-in-Over.ensures

pub returns-in-Stopped-clause-bounded : goal.returns-in-Stopped-clause-bounded
returns-in-Stopped-clause-bounded g c =
    grown_within c.args.limits.output c.turns.room (g.W.Output.given c.args.out.now) (g.W.Output.given c.turns.out) (g.W.Output.given c.take_turn.new.out) c.turns.invariant.grown c.in-Stopped.ensures.grows

pub returns-in-Stopped-clause-ran : goal.returns-in-Stopped-clause-ran
returns-in-Stopped-clause-ran g c known starts =
    let h = c.turns.invariant.going known starts in
    let did = c.in-Stopped.ensures.did known.values known.ask (within_asks h) in
    within_failed h (stop_or_memory c.take_turn.new.stop) c.stopped.result c.in-Some.fewer (g.W.Output.given c.take_turn.new.out) c.take_turn.new.machine c.in-Some.ensures did c.stopped.ensures

pub returns-in-Some-end_of-clause-bounded : goal.returns-in-Some-end_of-clause-bounded
returns-in-Some-end_of-clause-bounded g c =
    grown_stop
    c.args.limits.output c.turns.room c.in-Went.rest (g.W.Output.given c.args.out.now) (g.W.Output.given c.turns.out) (g.W.Output.given c.take_turn.new.out)
    c.turns.invariant.grown c.in-Went.ensures.grows

pub returns-in-Some-end_of-clause-ran : goal.returns-in-Some-end_of-clause-ran
returns-in-Some-end_of-clause-ran g c known starts =
    let h = c.turns.invariant.going known starts in
    let did = c.in-Went.ensures.did known.values known.ask (within_asks h) in
    within_ended h c.in-Went.flow c.in-Some-end_of.end c.in-Some.fewer c.in-Went.rest (stop_or_memory c.take_turn.new.stop) (g.W.Output.given c.take_turn.new.out) c.take_turn.new.machine
    (sym c.end_of.ensures ∙ c.in-Some-end_of.is) c.in-Some.ensures did

pub returns-in_default-spend-clause-bounded : goal.returns-in_default-spend-clause-bounded
returns-in_default-spend-clause-bounded g c =
    grown_stop
    c.args.limits.output c.turns.room c.in-Went.rest (g.W.Output.given c.args.out.now) (g.W.Output.given c.turns.out) (g.W.Output.given c.take_turn.new.out)
    c.turns.invariant.grown c.in-Went.ensures.grows

pub returns-in_default-spend-clause-ran : goal.returns-in_default-spend-clause-ran
returns-in_default-spend-clause-ran g c known starts =
    let h = c.turns.invariant.going known starts in
    let did = c.in-Went.ensures.did known.values known.ask (within_asks h) in
    let next = state_of g.V.ValueSource.value_state g.T.ProgramSource.template_state known.values c.take_turn.new.machine in
    within_values h c.in-Went.flow c.in-Went.rest (stop_or_memory c.take_turn.new.stop) (g.W.Output.given c.take_turn.new.out) c.take_turn.new.machine
    c.add.new.self.made (lending_of c.add.new.self.lending) c.at_limit-in_default-spend.result next.asked (sym c.end_of.ensures ∙ c.in_default-end_of.is)
    (λ set. counts_on h c.take_turn.new.machine _ c.in-Ok.coming.put_in c.add.new.self.made (lending_of c.add.new.self.lending) (c.in-Ok.ensures.instr set) (c.in-Ok.ensures.puts set) (c.in-Ok-add.ensures.lending set) (c.in-Ok-add.ensures.made set)) did
    c.in_default-spend.ensures c.at_limit-in_default-spend.ensures

pub returns-in_default-add-clause-bounded : goal.returns-in_default-add-clause-bounded
returns-in_default-add-clause-bounded g c =
    grown_stop
    c.args.limits.output c.turns.room c.in-Went.rest (g.W.Output.given c.args.out.now) (g.W.Output.given c.turns.out) (g.W.Output.given c.take_turn.new.out)
    c.turns.invariant.grown c.in-Went.ensures.grows

pub returns-in_default-add-clause-ran : goal.returns-in_default-add-clause-ran
returns-in_default-add-clause-ran g c known starts =
    let h = c.turns.invariant.going known starts in
    let did = c.in-Went.ensures.did known.values known.ask (within_asks h) in
    let next = state_of g.V.ValueSource.value_state g.T.ProgramSource.template_state known.values c.take_turn.new.machine in
    within_memory h c.in-Went.flow c.in-Went.rest (stop_or_memory c.take_turn.new.stop) (g.W.Output.given c.take_turn.new.out) c.take_turn.new.machine c.into-in_default-add.result next.asked
    (sym c.end_of.ensures ∙ c.in_default-end_of.is) did c.into-in_default-add.ensures

pub turns-preserved : goal.turns-preserved
turns-preserved g c = record {
  same = c.in-Went.ensures.same ∙ c.turns.invariant.same;
  mark = c.in-Went.ensures.mark ∙ c.turns.invariant.mark;
  kept = kept_on c.turns.invariant.kept c.in-Went.ensures.kept;
  grown =
      grown_on c.args.limits.output c.turns.room c.in-Went.rest (g.W.Output.given c.args.out.now) (g.W.Output.given c.turns.out) (g.W.Output.given c.take_turn.new.out)
      c.turns.invariant.grown c.in-Went.ensures.grows;
  going = λ known starts.
      let h = c.turns.invariant.going known starts in
      let did = c.in-Went.ensures.did known.values known.ask (within_asks h) in
      within_on h c.in-Went.flow c.in-Some.fewer c.in-Went.rest c.add.new.self.made (lending_of c.add.new.self.lending) (stop_or_memory c.take_turn.new.stop) (g.W.Output.given c.take_turn.new.out) c.take_turn.new.machine
      (sym c.end_of.ensures ∙ c.in_default-end_of.is) c.in-Some.ensures
      (λ set. counts_on h c.take_turn.new.machine _ c.in-Ok.coming.put_in c.add.new.self.made (lending_of c.add.new.self.lending) (c.in-Ok.ensures.instr set) (c.in-Ok.ensures.puts set) (c.in-Ok-add.ensures.lending set) (c.in-Ok-add.ensures.made set))
      (leaves_most c.args.limits.values c.in-Some-spend.field-0 c.add.new.self.made c.in-Some-spend.ensures) did c.in-Went.ensures.kept;
  enough =
      let before = c.turns.invariant.enough in
      let h = c.turns.invariant.going before.0 before.1 in
      let did = c.in-Went.ensures.did before.0.values before.0.ask (within_asks h) in
      let nearer =
      within_nearer h c.in-Went.flow c.in-Went.rest (stop_or_memory c.take_turn.new.stop) (g.W.Output.given c.take_turn.new.out) c.take_turn.new.machine
      (sym c.end_of.ensures ∙ c.in_default-end_of.is) did in
      let still = before.2 in
      let less = c.less-left.ensures in
      (before.0, before.1, omega (arith, nearer, still, less));
}

pub turns-smaller : goal.turns-smaller
turns-smaller g c = omega (arith, c.less-left.ensures)

-- the search finds no proof of this, and takes long
pub at_limit-requires-in_default-spend : goal.at_limit-requires-in_default-spend
at_limit-requires-in_default-spend = grind (arith, common_steps)

pub returns-in_default-coming-clause-bounded : goal.returns-in_default-coming-clause-bounded
returns-in_default-coming-clause-bounded g c = grown_so c.args.limits.output c.turns.room (g.W.Output.given c.args.out.now) (g.W.Output.given c.turns.out) c.turns.invariant.grown

pub returns-in_default-coming-clause-ran : goal.returns-in_default-coming-clause-ran
returns-in_default-coming-clause-ran g c known starts =
    let h = c.turns.invariant.going known starts in
    let here = state_of g.V.ValueSource.value_state g.T.ProgramSource.template_state known.values c.turns.machine in
    within_unweighed h c.into.result here.asked c.into.ensures
