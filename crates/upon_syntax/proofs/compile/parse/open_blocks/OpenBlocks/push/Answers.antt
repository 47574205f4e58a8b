use Rattle.std.proofs.Common.{[], ◌∷◌, false, ◌∙◌, ap}
use Rattle.upon_syntax.specs.OpenBlocks.{stack_from}
use Rattle.upon_syntax.proofs.OpenBlocks.{stack_more}
use Rattle.upon_syntax.proofs.compile.parse.open_blocks.OpenBlocks.push.Goals as goal

pub returns : goal.returns
returns c =
    ap (stack_from []) c.in_ok-push.ensures.items
    ∙ stack_more [] c.args.self.now.blocks.items (record { kind = c.args.kind; has_else = false; span = c.args.span } ∷ [])
