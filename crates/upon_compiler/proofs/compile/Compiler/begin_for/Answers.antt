use Rattle.std.proofs.Common.{◌≡◌, [], ◌∷◌, ◌++◌, ap, ◌∙◌, length}
use Rattle.upon_machine_spec.specs.Instr.{loop_next, loop_start}
use Rattle.upon_types.specs.AstPath.{loop_vars_of}
use Rattle.upon_compiler.specs.Compiler.{code_of}
use Rattle.upon_compiler.proofs.Blocks.{one_block, same_state}
use Rattle.upon_compiler.specs.declared.compile.OpenBlock.TheVariants.{For}
use Rattle.upon_compiler.proofs.compile.Compiler.begin_for.Goals as goal

pub returns-clause-state : goal.returns-clause-state
returns-clause-state c =
    let start = loop_start (loop_vars_of c.args.vars.value) c.args.span in
    let push : code_of c.push.new.self ≡ code_of c.append.new.self ++ start ∷ [] = c.in_ok-push.ensures.code in
    let begun = push ∙ ap (λ x. x ++ start ∷ []) c.in_ok-append.ensures.code in
    same_state _ _ _ _
    (c.enter.ensures.code ∙ c.in_ok-push-2.ensures.code ∙ ap (λ x. x ++ loop_next 0 ∷ []) begun)
    (one_block For _ _ _ _ _ c.in_ok-enter.ensures.blocks (c.len-next.ensures ∙ ap length begun)
    (c.push-2.ensures.blocks ∙ c.push.ensures.blocks ∙ c.append.ensures.blocks))
