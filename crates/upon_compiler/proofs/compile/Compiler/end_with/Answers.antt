use Rattle.std.proofs.Common.{[], ◌∷◌, ◌++◌, ap, ◌∙◌}
use Rattle.upon_machine_spec.specs.Instr.{with_end}
use Rattle.upon_compiler.proofs.Blocks.{same_state}
use Rattle.upon_compiler.proofs.compile.Compiler.end_with.Goals as goal

pub returns : goal.returns
returns c =
    same_state _ _ _ _ (c.in_ok-push.ensures.code ∙ ap (λ x. x ++ with_end ∷ []) c.leave.ensures.code)
    (c.push.ensures.blocks ∙ c.leave.ensures.blocks)
