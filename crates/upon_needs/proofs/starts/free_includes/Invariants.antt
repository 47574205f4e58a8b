use Rattle.std.proofs.Common.{◌≡◌, ◌≤◌, ◌++◌, drop, filter_map}
use Rattle.upon_compiler.specs.Program.{program_view}
use Rattle.upon_machine_spec.specs.ProgramNames.{plain_include}
use Rattle.upon_needs.specs.Names.{texts}
use Rattle.upon_needs.specs.OpenBlocks.{free_includes, outside_blocks}
use Rattle.upon_needs.proofs.starts.free_includes.Given as goal

abbrev pub invariant-loop-at : goal.invariant-loop-at
invariant-loop-at l = (l.depth ≤ l.at) × (texts l.names.items ++ filter_map plain_include (outside_blocks l.at l.depth (program_view (drop l.at l.instrs))) ≡ free_includes (program_view l.instrs))
