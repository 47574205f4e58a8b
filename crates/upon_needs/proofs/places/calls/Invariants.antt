use Rattle.std.proofs.Common.{◌≡◌, ◌++◌, drop, map}
use Rattle.upon_compiler.specs.Program.{program_view}
use Rattle.upon_needs.specs.Places.{call_at, calls_in}
use Rattle.upon_needs.proofs.places.calls.Given as goal

abbrev pub invariant-loop-instr : goal.invariant-loop-instr
invariant-loop-instr l = map call_at l.places.items ++ calls_in (program_view (drop l.instr-index l.instrs)) ≡ calls_in (program_view l.instrs)
