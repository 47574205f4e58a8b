-- The blocks that are open along a walk over instructions, and what lies outside of them all.
use Rattle.std.specs.Prelude.{ℕ, zero, suc, ◌+◌, ◌-◌, leb, List, [], ◌∷◌, map, filter_map, Bool, true, false, bytes_eq, if◌then◌else◌}
use Rattle.std.specs.Borrow.{Bor}
use Rattle.upon_machine_spec.specs.Instr.{Instr, jump, loop_start, with_start, with_end}
use Rattle.upon_machine_spec.specs.ProgramNames.{block_begins, loop_binds, plain_include}
use Rattle.upon_compiler.specs.Program.{instr_of}
use Rattle.upon_compiler.specs.declared.types.program.Instr.{Instr as CodeInstr}

-- the instruction begins a block
abbrev pub opens : Instr → Bool
opens (with_start word) = true
opens (loop_start names span) = true
opens i = false

-- the instruction, which has this number, ends a block; a jump back ends a loop
abbrev pub is_block_end : ℕ → Instr → Bool
is_block_end at with_end = true
is_block_end at (jump to) = leb to at
is_block_end at i = false

-- the instruction begins a block that binds the name
abbrev pub binds_name : List ℕ → Instr → Bool
binds_name name (with_start word) = bytes_eq word.text name
binds_name name (loop_start names span) = loop_binds name names
binds_name name i = false

-- the instructions that began the open blocks, the outermost first
abbrev pub blocks : List (Bor CodeInstr) → List Instr
blocks opened = map (λ block. instr_of block.now) opened

-- of open blocks, the outermost first, how many there are from the outermost on that binds the name; so many are
-- counted around them
abbrev pub open_count : List ℕ → ℕ → List Instr → ℕ
open_count name n [] = n
open_count name n (block ∷ inner) = open_count name (block_begins (binds_name name block) n) inner

-- how many blocks are open after an instruction, which has this number
abbrev pub depth_after : ℕ → Instr → ℕ → ℕ
depth_after at (with_start word) n = n + 1
depth_after at with_end n = n - 1
depth_after at (loop_start names span) n = n + 1
depth_after at (jump to) n = if leb to at then n - 1 else n
depth_after at i n = n

-- the instructions, the first of which has this number, outside of each block; so many are open at first
abbrev pub outside_blocks : ℕ → ℕ → List Instr → List Instr
outside_blocks at n [] = []
outside_blocks at zero (i ∷ is) = i ∷ outside_blocks (at + 1) (depth_after at i zero) is
outside_blocks at (suc n) (i ∷ is) = outside_blocks (at + 1) (depth_after at i (suc n)) is

-- the templates that are included without a value, outside of each block
abbrev pub free_includes : List Instr → List (List ℕ)
free_includes code = filter_map plain_include (outside_blocks 0 0 code)
