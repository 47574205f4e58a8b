use Rattle.std.proofs.Common.{◌∙◌, ap, option_map, List}
use Rattle.std.specs.List.{slice_get}
use Rattle.upon_syntax.specs.declared.compile.parse.open_blocks.OpenBlock.{OpenBlock}
use Rattle.upon_syntax.specs.OpenBlocks.{block_of}
use Rattle.upon_syntax.proofs.OpenBlocks.{outermost_first}
use Rattle.upon_syntax.proofs.compile.parse.open_blocks.OpenBlocks.outermost.Goals as goal

pub returns : goal.returns
returns c =
    ap (option_map block_of) (c.copied.ensures ∙ c.first.ensures.value ∙ ap (λ (xs : List OpenBlock). slice_get xs 0) c.deref.ensures.value)
    ∙ outermost_first c.args.self.now.blocks.items
