use Rattle.std.proofs.Common.{◌≡◌, ◌++◌, drop, map}
use Rattle.upon_compiler.specs.Program.{program_view}
use Rattle.upon_needs.specs.Places.{include_at, includes_in}
use Rattle.upon_needs.proofs.places.include_places.Given as goal

abbrev pub invariant-loop-instr : goal.invariant-loop-instr
invariant-loop-instr l = map include_at l.places.items ++ includes_in (program_view (drop l.instr-index l.instrs)) ≡ includes_in (program_view l.instrs)
