use Rattle.std.proofs.Common.{◌≡◌, ◌<◌, ℕ, List, length}
use Rattle.std.specs.Io.KnownBytes.{Appends}
use Rattle.upon_render.specs.Roots.{pure_root}
use Rattle.upon_render.specs.Stack.{root_of}
use Rattle.upon_machine_spec.specs.Run.{steps}
use Rattle.upon_vm_steps.specs.Acts.{calls_on}
use Rattle.upon_vm_steps.specs.Keeps.{Kept}
use Rattle.upon_vm.specs.Lending.{lending_of}
use Rattle.upon_vm.specs.Limits.{Leaves}
use Rattle.upon_vm_steps.specs.Machine.{state_of}
use Rattle.upon_vm.specs.Runs.{KnownRun, Starts}
use Rattle.upon_vm.proofs.WithinTurns.{WayWithin}
use Rattle.upon_vm.proofs.within.run_within.Given as goal

-- the run ends within so many steps
abbrev pub ghosts-some : goal.ghosts-some
ghosts-some g a = record {
  holds = λ n.
      (known : KnownRun g.V.ValueSource.State g.T.ProgramSource.State)
      × Starts
      g.V.ValueSource.ask g.V.ValueSource.value_state g.T.ProgramSource.template_state (g.T.ProgramSource.resolve a._b.now.templates)
      (g.C.Callables.callables a._a.now) (g.C.Callables.default_formatter a._a.now) known a._b.now
      × (n ≡ known.count);
}

abbrev pub decreases-turns : goal.decreases-turns
decreases-turns g l = l.left.left

abbrev pub invariant-turns : goal.invariant-turns
invariant-turns g l = record {
  same : g.W.Output.holds l.out ≡ g.W.Output.holds l.initial.out;
  mark : g.W.Output.mark l.out ≡ g.W.Output.mark l.initial.out;
  kept : Kept g.V.ValueSource.ask g.V.ValueSource.holds g.T.ProgramSource.resolve g.T.ProgramSource.holds l.initial.machine l.machine;
  grown : (text : List ℕ) × Leaves l.limits.output (length text) l.room × Appends (g.W.Output.given l.initial.out) (g.W.Output.given l.out) text;
  going :
      (known : KnownRun g.V.ValueSource.State g.T.ProgramSource.State)
      → Starts
      g.V.ValueSource.ask g.V.ValueSource.value_state g.T.ProgramSource.template_state (g.T.ProgramSource.resolve l.initial.machine.templates)
      (g.C.Callables.callables l.fn.callables) (g.C.Callables.default_formatter l.fn.callables) known l.initial.machine
      → WayWithin
      g.V.ValueSource.ask g.V.ValueSource.value_state g.V.ValueSource.holds g.T.ProgramSource.template_state g.T.ProgramSource.resolve g.T.ProgramSource.holds
      (calls_on (g.C.Callables.callables l.fn.callables) (g.C.Callables.default_formatter l.fn.callables) known.ask)
      known.values known.count known.outcome l.limits l.initial.machine l.steps l.room l.account.made (lending_of l.account.lending) (g.W.Output.given l.initial.out) (g.W.Output.given l.out) l.machine;
  enough :
      (known : KnownRun g.V.ValueSource.State g.T.ProgramSource.State)
      × Starts
      g.V.ValueSource.ask g.V.ValueSource.value_state g.T.ProgramSource.template_state (g.T.ProgramSource.resolve l.initial.machine.templates)
      (g.C.Callables.callables l.fn.callables) (g.C.Callables.default_formatter l.fn.callables) known l.initial.machine
      × (steps
      (calls_on (g.C.Callables.callables l.fn.callables) (g.C.Callables.default_formatter l.fn.callables) known.ask)
      (g.T.ProgramSource.resolve l.initial.machine.templates) (pure_root (root_of l.initial.machine.stack)) known.count
      (state_of g.V.ValueSource.value_state g.T.ProgramSource.template_state known.values l.machine) < l.left.left);
}
