use Rattle.upon_compiler.proofs.Blocks.{same_state}
use Rattle.upon_compiler.proofs.compile.Compiler.include.Goals as goal

pub returns : goal.returns
returns c = same_state _ _ _ _ c.in_ok-push.ensures.code c.push.ensures.blocks
