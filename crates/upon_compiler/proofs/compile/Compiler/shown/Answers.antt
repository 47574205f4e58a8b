use Rattle.upon_compiler.proofs.Blocks.{same_state}
use Rattle.upon_compiler.proofs.compile.Compiler.shown.Goals as goal

pub returns-clause-state : goal.returns-clause-state
returns-clause-state c = same_state _ _ _ _ c.in_ok-append.ensures.code c.append.ensures.blocks
