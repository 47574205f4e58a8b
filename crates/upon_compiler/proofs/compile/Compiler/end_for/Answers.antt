use Rattle.std.proofs.Common.{[], ◌∷◌, ◌++◌, length, refl, ap, ◌∙◌}
use Rattle.std.specs.Prelude.{slice_set}
use Rattle.upon_machine_spec.specs.Instr.{jump, loop_next, loop_next_else}
use Rattle.upon_compiler.proofs.Blocks.{closed, no_loop, none_open}
use Rattle.upon_compiler.specs.After.{for_ended}
use Rattle.upon_compiler.specs.Compiler.{blocks_of, code_of}
use Rattle.upon_compiler.specs.declared.compile.OpenBlock.TheVariants.{For, ForElse}
use Rattle.upon_compiler.proofs.compile.Compiler.end_for.Goals as goal

pub returns-in_default : goal.returns-in_default
returns-in_default c =
    none_open (for_ended (code_of c.args.self.now)) _ _ _ _ c.leave.ensures.code c.leave.ensures.blocks c.in_default.ensures.block refl

pub returns-in_ok-push-in-For : goal.returns-in_ok-push-in-For
returns-in_ok-push-in-For c =
    let next = c.in-For.next in
    let back = c.in_ok-push-in-For.ensures.code ∙ ap (λ x. x ++ jump next ∷ []) c.leave.ensures.code in
    closed (for_ended (code_of c.args.self.now)) _ _ _ _ _ c.in-Some.block (For next)
    (c.replace.ensures.code
    ∙ ap (λ n. slice_set (code_of c.push.new.self) next (loop_next n)) c.len-past.ensures
    ∙ ap (λ x. slice_set x next (loop_next (length x))) back)
    (c.replace.ensures.blocks ∙ c.push.ensures.blocks) c.in-Some.ensures.block c.in-For.is refl

pub returns-in-ForElse : goal.returns-in-ForElse
returns-in-ForElse c =
    let next = c.in-ForElse.next in
    let other = c.in-ForElse.other in
    closed (for_ended (code_of c.args.self.now)) _ _ _ _ _ c.in-Some.block (ForElse next other)
    (c.replace-in-ForElse.ensures.code
    ∙ ap (λ n. slice_set (code_of c.leave.new.self) next (loop_next_else other n)) c.len-past-in-ForElse.ensures
    ∙ ap (λ x. slice_set x next (loop_next_else other (length x))) c.leave.ensures.code)
    c.replace-in-ForElse.ensures.blocks c.in-Some.ensures.block c.in-ForElse.is refl

pub returns-in_default-block : goal.returns-in_default-block
returns-in_default-block c =
    closed (for_ended (code_of c.args.self.now)) _ _ _ _ _ c.in-Some.block c.in-Some.block c.leave.ensures.code refl c.in-Some.ensures.block refl
    (no_loop c.in-Some.block (blocks_of c.leave.new.self) (code_of c.args.self.now) c.in_default-block.not-For c.in_default-block.not-ForElse)
