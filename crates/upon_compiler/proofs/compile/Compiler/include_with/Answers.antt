use Rattle.std.proofs.Common.{[], ◌∷◌, ◌++◌, ap, ◌∙◌}
use Rattle.upon_machine_spec.specs.Instr.{include_with}
use Rattle.upon_types.specs.AstPath.{string_of}
use Rattle.upon_compiler.proofs.Blocks.{same_state}
use Rattle.upon_compiler.proofs.compile.Compiler.include_with.Goals as goal

pub returns-clause-state : goal.returns-clause-state
returns-clause-state c =
    same_state _ _ _ _
    (c.in_ok-push.ensures.code ∙ ap (λ x. x ++ include_with (string_of c.args.name) ∷ []) c.in_ok-append.ensures.code)
    (c.push.ensures.blocks ∙ c.append.ensures.blocks)
