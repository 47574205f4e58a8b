use Rattle.upon_compiler.proofs.Blocks.{reverse_more}
use Rattle.upon_compiler.proofs.compile.Compiler.enter.Goals as goal

pub returns-clause-blocks : goal.returns-clause-blocks
returns-clause-blocks c = reverse_more _ _ c.args.block c.in_ok-push.ensures.items
