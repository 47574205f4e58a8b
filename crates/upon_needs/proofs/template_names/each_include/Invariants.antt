use Rattle.std.proofs.Common.{◌≡◌, ◌++◌, drop}
use Rattle.upon_compiler.specs.Program.{program_view}
use Rattle.upon_machine_spec.specs.ProgramNames.{includes}
use Rattle.upon_needs.specs.Names.{texts}
use Rattle.upon_needs.proofs.template_names.each_include.Given as goal

abbrev pub invariant-loop-instr : goal.invariant-loop-instr
invariant-loop-instr l = texts l.names.items ++ includes (program_view (drop l.instr-index l.instrs)) ≡ includes (program_view l.instrs)
