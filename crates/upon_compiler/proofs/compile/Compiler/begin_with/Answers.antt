use Rattle.std.proofs.Common.{[], ◌∷◌, ◌++◌, ap, ◌∙◌}
use Rattle.upon_machine_spec.specs.Instr.{with_start}
use Rattle.upon_types.specs.AstPath.{ident_of}
use Rattle.upon_compiler.proofs.Blocks.{same_state}
use Rattle.upon_compiler.specs.declared.compile.OpenBlock.TheVariants.{With}
use Rattle.upon_compiler.proofs.compile.Compiler.begin_with.Goals as goal

pub returns-clause-state : goal.returns-clause-state
returns-clause-state c = λ at.
    same_state _ _ _ _
    (c.enter.ensures.code ∙ c.in_ok-push.ensures.code ∙ ap (λ x. x ++ with_start (ident_of c.args.name) ∷ []) c.in_ok-append.ensures.code)
    (c.in_ok-enter.ensures.blocks ∙ ap (λ b. With ∷ b) (c.push.ensures.blocks ∙ c.append.ensures.blocks))
