-- That each jump of a program goes to one of its instructions, or to its end.
use Rattle.std.specs.Prelude.{ℕ, ◌≤◌, List, [], ◌∷◌}
use Rattle.upon_machine_spec.specs.Instr.{Instr, jump, jump_if_true, jump_if_false, loop_next, loop_next_else}

-- the instruction jumps no further than there
abbrev pub JumpsTo : ℕ → Instr → Type 0
JumpsTo end (jump n) = n ≤ end
JumpsTo end (jump_if_true n) = n ≤ end
JumpsTo end (jump_if_false n) = n ≤ end
JumpsTo end (loop_next n) = n ≤ end
JumpsTo end (loop_next_else other past) = (other ≤ end) × (past ≤ end)
JumpsTo end i = Unit {0}

-- each jump of a program goes into it or to its end
abbrev pub JumpWithin : ℕ → List Instr → Type 0
JumpWithin end [] = Unit {0}
JumpWithin end (i ∷ is) = JumpsTo end i × JumpWithin end is
