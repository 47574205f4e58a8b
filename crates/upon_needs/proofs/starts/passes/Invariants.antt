use Rattle.std.proofs.Common.{◌≡◌, ◌≤◌, ◌++◌, drop, filter_map}
use Rattle.upon_compiler.specs.Program.{program_view}
use Rattle.upon_machine_spec.specs.ProgramNames.{passes_on, plain_include, unbound}
use Rattle.upon_needs.specs.Names.{texts}
use Rattle.upon_needs.proofs.starts.passes.Given as goal

abbrev pub invariant-loop-at : goal.invariant-loop-at
invariant-loop-at l = (l.count ≤ l.at) × (texts l.names.items ++ filter_map plain_include (unbound l.name l.at l.count (program_view (drop l.at l.instrs))) ≡ passes_on l.name (program_view l.instrs))
