use Rattle.std.proofs.Common.{◌≡◌, ◌<◌}
use Rattle.upon_render.specs.Roots.{pure_root}
use Rattle.upon_render.specs.Stack.{root_of}
use Rattle.upon_machine_spec.specs.Run.{steps}
use Rattle.upon_vm_steps.specs.Acts.{calls_on}
use Rattle.upon_vm_steps.specs.Keeps.{Kept}
use Rattle.upon_vm_steps.specs.Machine.{state_of}
use Rattle.upon_vm.specs.Runs.{KnownRun, Starts}
use Rattle.upon_vm.proofs.OnTheWay.{OnTheWay}
use Rattle.upon_vm.proofs.run.run.Given as goal

-- the run ends within so many steps
abbrev pub ghosts-some : goal.ghosts-some
ghosts-some g a = record {
  holds = λ n.
      (known : KnownRun g.V.ValueSource.State g.T.ProgramSource.State)
      × Starts
      g.V.ValueSource.ask g.V.ValueSource.value_state g.T.ProgramSource.template_state (g.T.ProgramSource.resolve a._b.now.templates)
      (g.C.Callables.callables a._a.now) (g.C.Callables.default_formatter a._a.now) known a._b.now
      × (n ≡ known.count);
}

abbrev pub decreases-steps : goal.decreases-steps
decreases-steps g l = l.left.left

abbrev pub invariant-steps : goal.invariant-steps
invariant-steps g l = record {
  same : g.W.Output.holds l.out ≡ g.W.Output.holds l.initial.out;
  mark : g.W.Output.mark l.out ≡ g.W.Output.mark l.initial.out;
  kept : Kept g.V.ValueSource.ask g.V.ValueSource.holds g.T.ProgramSource.resolve g.T.ProgramSource.holds l.initial.machine l.machine;
  going :
      (known : KnownRun g.V.ValueSource.State g.T.ProgramSource.State)
      → Starts
      g.V.ValueSource.ask g.V.ValueSource.value_state g.T.ProgramSource.template_state (g.T.ProgramSource.resolve l.initial.machine.templates)
      (g.C.Callables.callables l.fn.callables) (g.C.Callables.default_formatter l.fn.callables) known l.initial.machine
      → OnTheWay
      g.V.ValueSource.ask g.V.ValueSource.value_state g.V.ValueSource.holds g.T.ProgramSource.template_state g.T.ProgramSource.resolve g.T.ProgramSource.holds
      (calls_on (g.C.Callables.callables l.fn.callables) (g.C.Callables.default_formatter l.fn.callables) known.ask)
      known.values known.count known.outcome l.initial.machine (g.W.Output.given l.initial.out) (g.W.Output.given l.out) l.machine;
  enough :
      (known : KnownRun g.V.ValueSource.State g.T.ProgramSource.State)
      × Starts
      g.V.ValueSource.ask g.V.ValueSource.value_state g.T.ProgramSource.template_state (g.T.ProgramSource.resolve l.initial.machine.templates)
      (g.C.Callables.callables l.fn.callables) (g.C.Callables.default_formatter l.fn.callables) known l.initial.machine
      × (steps
      (calls_on (g.C.Callables.callables l.fn.callables) (g.C.Callables.default_formatter l.fn.callables) known.ask)
      (g.T.ProgramSource.resolve l.initial.machine.templates) (pure_root (root_of l.initial.machine.stack)) known.count
      (state_of g.V.ValueSource.value_state g.T.ProgramSource.template_state known.values l.machine) < l.left.left);
}
