use Rattle.std.proofs.Common.{◌-◌, arith}
use Rattle.upon_syntax.proofs.OpenBlocks.{else_begun}
use Rattle.upon_syntax.proofs.compile.parse.open_blocks.OpenBlocks.begin_else.Goals as goal

pub returns-then-count-gt0 : goal.returns-then-count-gt0
returns-then-count-gt0 c =
    else_begun c.args.self.now.blocks.items (c.len-count.result - 1) c.index_mut.result.now (omega (arith, c.len-count.ensures, c.if-count-gt0.true)) (omega (arith, c.len-count.ensures)) c.index_mut.ensures.value
