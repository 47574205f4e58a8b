use Rattle.std.proofs.Common.{◌≡◌, ◌++◌, drop}
use Rattle.upon_compiler.specs.Program.{program_view}
use Rattle.upon_needs.specs.IndexStarts.{plain_includes}
use Rattle.upon_needs.specs.Names.{texts}
use Rattle.upon_needs.proofs.starts.plain_includes.Given as goal

abbrev pub invariant-loop-instr : goal.invariant-loop-instr
invariant-loop-instr l = texts l.names.items ++ plain_includes (program_view (drop l.instr-index l.instrs)) ≡ plain_includes (program_view l.instrs)
