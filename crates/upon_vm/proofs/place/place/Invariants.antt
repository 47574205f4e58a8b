use Rattle.std.proofs.Common.{◌≡◌}
use Rattle.upon_compiler.specs.Program.{program_view}
use Rattle.upon_vm.specs.Place.{nearest_span}
use Rattle.upon_vm.proofs.place.place.Given as goal

abbrev pub invariant-loop-span : goal.invariant-loop-span
invariant-loop-span l = nearest_span l.source (program_view l.instrs) l.position ≡ nearest_span l.source (program_view l.instrs) l.at

abbrev pub decreases-loop-span : goal.decreases-loop-span
decreases-loop-span l = l.at
