-- What a compiler has after it is told of a piece of a template. A jump past instructions is written once they are
-- there; before that, another instruction is in its place.
use Rattle.std.specs.Prelude.{◌≡◌, ℕ, ◌<◌, List, [], ◌∷◌, ◌++◌, length, Bool, true, false, Option, Some, None, slice_set}
use Rattle.upon_types.specs.BlockKinds.{Block, if_block, for_block, with_block, Opening, if_tag, for_tag, with_tag}
use Rattle.upon_types.specs.Path.{LoopVars}
use Rattle.upon_types.specs.declared.types.Span.{Span}
use Rattle.upon_machine_spec.specs.Code.{jump_unless}
use Rattle.upon_machine_spec.specs.Instr.{Instr, jump, emit_raw, loop_start, loop_next, loop_next_else, with_start, with_end}
use Rattle.upon_machine_spec.specs.Instr.{include as enter, include_with as enter_with}
use Rattle.upon_compiler.specs.Compiler.{CompilerState, state}
use Rattle.upon_compiler.specs.Events.{Event, raw_event, shown_event, opening_event, else_if_event, else_event, end_event, include_event, include_with_event}
use Rattle.upon_compiler.specs.declared.compile.OpenBlock.{OpenBlock}
use Rattle.upon_compiler.specs.declared.compile.OpenBlock.TheVariants.{If, Else, ElseIf, For, ForElse, With}

-- the blocks around the innermost one
abbrev pub outer : List OpenBlock → List OpenBlock
outer [] = []
outer (block ∷ blocks) = blocks

-- an `if`, whose condition's instructions are there: the jump past its first branch is not written yet
abbrev pub if_begun : Bool → List Instr → List OpenBlock → CompilerState
if_begun negated code blocks = state (code ++ jump 0 ∷ []) (If negated (length code) ∷ blocks)

-- between the branches of an `if`: the jump of this number goes to the second one, the jump past that is not written
-- yet
abbrev pub between_branches : Bool → ℕ → List Instr → List Instr
between_branches negated start code =
    let way : List Instr = code ++ jump 0 ∷ [] in slice_set way start (jump_unless negated (length way))

-- an `else if`, before its condition
abbrev pub else_if_begun : List Instr → List OpenBlock → CompilerState
else_if_begun code [] = state code []
else_if_begun code (If negated start ∷ blocks) = state (between_branches negated start code)
    (ElseIf (length code) ∷ blocks)
else_if_begun code (other ∷ blocks) = state code blocks

-- an `else`: of a loop it comes after the way back to the next turn
abbrev pub else_begun : List Instr → List OpenBlock → CompilerState
else_begun code [] = state code []
else_begun code (If negated start ∷ blocks) = state (between_branches negated start code) (Else (length code) ∷ blocks)
else_begun code (For next ∷ blocks) =
    let back : List Instr = code ++ jump next ∷ [] in state back (ForElse next (length back) ∷ blocks)
else_begun code (other ∷ blocks) = state code blocks

-- the last branch of an `if` ends: the jump past it is written
abbrev pub branch_ended : OpenBlock → List Instr → List Instr
branch_ended (If negated start) code = slice_set code start (jump_unless negated (length code))
branch_ended (Else past) code = slice_set code past (jump (length code))
branch_ended (ElseIf past) code = slice_set code past (jump (length code))
branch_ended other code = code

-- each `if` that goes on with an `else if` ends with that
abbrev pub else_ifs_ended : List Instr → List OpenBlock → CompilerState
else_ifs_ended code [] = state code []
else_ifs_ended code (ElseIf past ∷ blocks) = else_ifs_ended (branch_ended (ElseIf past) code) blocks
else_ifs_ended code (other ∷ blocks) = state code (other ∷ blocks)

-- whether a block is an `if` that goes on with an `else if`
abbrev pub is_else_if : OpenBlock → Bool
is_else_if (ElseIf past) = true
is_else_if other = false

-- this block, if there is one, is the innermost of the old ones, goes on with an `else if` and is closed first; without
-- it there is no such block
abbrev pub LeavesElseIf : Option OpenBlock → List OpenBlock → List OpenBlock → Type 0
LeavesElseIf None old new = (new ≡ old) × ((code : List Instr) → else_ifs_ended code old ≡ state code old)
LeavesElseIf (Some block) old new = (length new < length old)
    × ((code : List Instr) → else_ifs_ended code old ≡ else_ifs_ended (branch_ended block code) new)

-- the end of an `if`
abbrev pub if_ended : List Instr → List OpenBlock → CompilerState
if_ended code [] = state code []
if_ended code (block ∷ blocks) = else_ifs_ended (branch_ended block code) blocks

-- a loop, whose list's instructions are there: its start, and its next turn, whose jump is not written yet
abbrev pub for_begun : LoopVars → Span → List Instr → List OpenBlock → CompilerState
for_begun names span code blocks =
    let start : List Instr = code ++ loop_start names span ∷ [] in
    state (start ++ loop_next 0 ∷ []) (For (length start) ∷ blocks)

-- the end of a loop: the jump of its next turn is written
abbrev pub for_ended : List Instr → List OpenBlock → CompilerState
for_ended code [] = state code []
for_ended code (For next ∷ blocks) =
    let back : List Instr = code ++ jump next ∷ [] in state (slice_set back next (loop_next (length back))) blocks
for_ended code (ForElse next other ∷ blocks) = state (slice_set code next (loop_next_else other (length code))) blocks
for_ended code (other ∷ blocks) = state code blocks

-- a block, whose expression has this span and its instructions are there
abbrev pub block_begun : Opening → Span → List Instr → List OpenBlock → CompilerState
block_begun (if_tag negated) span code blocks = if_begun negated code blocks
block_begun (for_tag names) span code blocks = for_begun names span code blocks
block_begun (with_tag word) span code blocks = state (code ++ with_start word ∷ []) (With ∷ blocks)

-- its end
abbrev pub block_ended : Block → List Instr → List OpenBlock → CompilerState
block_ended if_block code blocks = if_ended code blocks
block_ended for_block code blocks = for_ended code blocks
block_ended with_block code blocks = state (code ++ with_end ∷ []) (outer blocks)

-- what there is after a piece
abbrev pub after_event : Event → CompilerState → CompilerState
after_event (raw_event span) s = state (s.code ++ emit_raw span ∷ []) s.blocks
after_event (shown_event code) s = state (s.code ++ code) s.blocks
after_event (opening_event tag at code) s = block_begun tag at (s.code ++ code) s.blocks
after_event (else_if_event negated code) s =
    let ready : CompilerState = else_if_begun s.code s.blocks in if_begun negated (ready.code ++ code) ready.blocks
after_event else_event s = else_begun s.code s.blocks
after_event (end_event kind) s = block_ended kind s.code s.blocks
after_event (include_event word) s = state (s.code ++ enter word ∷ []) s.blocks
after_event (include_with_event word code) s = state ((s.code ++ code) ++ enter_with word ∷ []) s.blocks

-- what there is after these pieces
abbrev pub after_all : List Event → CompilerState → CompilerState
after_all [] s = s
after_all (event ∷ events) s = after_all events (after_event event s)
