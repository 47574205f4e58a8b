-- What a compiler holds: the instructions so far, and the open blocks.
use Rattle.std.specs.Prelude.{List, [], reverse}
use Rattle.upon_machine_spec.specs.Instr.{Instr}
use Rattle.upon_compiler.specs.Program.{program_view}
use Rattle.upon_compiler.specs.declared.compile.Compiler.{Compiler}
use Rattle.upon_compiler.specs.declared.compile.OpenBlock.{OpenBlock}

-- instructions, and open blocks, the innermost first
pub record CompilerState : Type 0 where
  pub code : List Instr
  pub blocks : List OpenBlock

-- these instructions and open blocks
abbrev pub state : List Instr → List OpenBlock → CompilerState
state code blocks = record { code = code; blocks = blocks }

-- no instruction, and no open block
abbrev pub nothing : CompilerState
nothing = state [] []

-- the instructions of a compiler
abbrev pub code_of : Compiler → List Instr
code_of compiler = program_view compiler.instrs.items

-- its open blocks
abbrev pub blocks_of : Compiler → List OpenBlock
blocks_of compiler = reverse compiler.blocks.items

-- both
abbrev pub compiler_state : Compiler → CompilerState
compiler_state compiler = state (code_of compiler) (blocks_of compiler)
