use Rattle.std.proofs.Common.{[], ◌∷◌, ◌++◌, ap, ◌∙◌, length}
use Rattle.upon_machine_spec.specs.Instr.{jump}
use Rattle.upon_compiler.proofs.Blocks.{one_block, same_state}
use Rattle.upon_compiler.specs.declared.compile.OpenBlock.TheVariants.{If}
use Rattle.upon_compiler.proofs.compile.Compiler.begin_if.Goals as goal

pub returns-clause-state : goal.returns-clause-state
returns-clause-state c = λ at.
    same_state _ _ _ _
    (c.enter.ensures.code ∙ c.in_ok-push.ensures.code ∙ ap (λ x. x ++ jump 0 ∷ []) c.in_ok-append.ensures.code)
    (one_block (If c.args.not) _ _ _ _ _ c.in_ok-enter.ensures.blocks (c.len-start.ensures ∙ ap length c.in_ok-append.ensures.code)
    (c.push.ensures.blocks ∙ c.append.ensures.blocks))
