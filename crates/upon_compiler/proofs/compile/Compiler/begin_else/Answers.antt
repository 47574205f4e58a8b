use Rattle.std.proofs.Common.{[], ◌∷◌, ◌++◌, length, refl, ap, ◌∙◌}
use Rattle.upon_machine_spec.specs.Instr.{jump}
use Rattle.upon_compiler.proofs.Blocks.{closed, no_else, none_open, went_on}
use Rattle.upon_compiler.specs.After.{between_branches, else_begun}
use Rattle.upon_compiler.specs.Compiler.{blocks_of, code_of}
use Rattle.upon_compiler.specs.declared.compile.OpenBlock.TheVariants.{Else, For, ForElse, If}
use Rattle.upon_compiler.proofs.compile.Compiler.begin_else.Goals as goal

pub returns-in_default : goal.returns-in_default
returns-in_default c =
    none_open (else_begun (code_of c.args.self.now)) _ _ _ _ c.leave.ensures.code c.leave.ensures.blocks c.in_default.ensures.block refl

pub returns-in_ok-enter-in-If : goal.returns-in_ok-enter-in-If
returns-in_ok-enter-in-If c =
    let old = code_of c.args.self.now in
    let not = c.in-If.not in
    let start = c.in-If.start in
    went_on (else_begun old) Else _ (between_branches not start old) _ _ _ _ _ _ c.in-Some.block (If not start)
    (c.enter.ensures.code ∙ c.in_ok-past-in-If.ensures.code ∙ ap (between_branches not start) c.leave.ensures.code)
    c.in_ok-enter-in-If.ensures.blocks (c.in_ok-past-in-If.ensures.number ∙ ap length c.leave.ensures.code) c.go_past.ensures.blocks
    c.in-Some.ensures.block c.in-If.is refl

pub returns-in_ok-enter-in-For : goal.returns-in_ok-enter-in-For
returns-in_ok-enter-in-For c =
    let old = code_of c.args.self.now in
    let next = c.in-For.next in
    let back = c.in_ok-push-in-For.ensures.code ∙ ap (λ x. x ++ jump next ∷ []) c.leave.ensures.code in
    went_on (else_begun old) (ForElse next) _ (old ++ jump next ∷ []) _ _ _ _ _ _ c.in-Some.block (For next)
    (c.enter-in-For.ensures.code ∙ back) c.in_ok-enter-in-For.ensures.blocks (c.len-other.ensures ∙ ap length back)
    c.push.ensures.blocks c.in-Some.ensures.block c.in-For.is refl

pub returns-in_default-block : goal.returns-in_default-block
returns-in_default-block c =
    closed (else_begun (code_of c.args.self.now)) _ _ _ _ _ c.in-Some.block c.in-Some.block c.leave.ensures.code refl c.in-Some.ensures.block refl
    (no_else c.in-Some.block (blocks_of c.leave.new.self) (code_of c.args.self.now) c.in_default-block.not-If c.in_default-block.not-For)
