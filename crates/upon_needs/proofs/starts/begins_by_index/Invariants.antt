use Rattle.std.proofs.Common.{◌≡◌, drop}
use Rattle.std.specs.List.{list_any}
use Rattle.upon_compiler.specs.Program.{program_view}
use Rattle.upon_needs.specs.IndexStarts.{has_index, begins_by_index}
use Rattle.upon_needs.proofs.starts.begins_by_index.Given as goal

abbrev pub invariant-loop-instr : goal.invariant-loop-instr
invariant-loop-instr l = list_any has_index (program_view (drop l.instr-index l.instrs)) ≡ begins_by_index (program_view l.instrs)
