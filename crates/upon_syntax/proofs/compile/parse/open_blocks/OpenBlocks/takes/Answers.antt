use Rattle.std.proofs.Common.{◌∙◌}
use Rattle.upon_syntax.specs.OpenBlocks.{closer_view}
use Rattle.upon_syntax.proofs.OpenBlocks.{takes_innermost}
use Rattle.upon_syntax.proofs.compile.parse.open_blocks.OpenBlocks.takes.Goals as goal

pub returns-in-Some : goal.returns-in-Some
returns-in-Some c =
    c.takes.ensures
    ∙ takes_innermost c.args.self.now.blocks.items c.deref.result.now c.in-Some.block.now (closer_view c.args.closer) c.deref.ensures.value c.in-Some.ensures.value
