use Rattle.std.proofs.Common.{length, refl, ap, ◌∙◌}
use Rattle.upon_compiler.proofs.Blocks.{closed, no_else_if, none_open, went_on}
use Rattle.upon_compiler.specs.After.{between_branches, else_if_begun}
use Rattle.upon_compiler.specs.Compiler.{blocks_of, code_of}
use Rattle.upon_compiler.specs.declared.compile.OpenBlock.TheVariants.{ElseIf, If}
use Rattle.upon_compiler.proofs.compile.Compiler.end_first_branch.Goals as goal

pub returns-in_default : goal.returns-in_default
returns-in_default c =
    none_open (else_if_begun (code_of c.args.self.now)) _ _ _ _ c.leave.ensures.code c.leave.ensures.blocks c.in_default.ensures.block refl

pub returns-in_default-block : goal.returns-in_default-block
returns-in_default-block c =
    closed (else_if_begun (code_of c.args.self.now)) _ _ _ _ _ c.in-Some.block c.in-Some.block c.leave.ensures.code refl c.in-Some.ensures.block refl
    (no_else_if c.in-Some.block (blocks_of c.leave.new.self) (code_of c.args.self.now) c.in_default-block.not-If)

pub returns : goal.returns
returns c =
    let old = code_of c.args.self.now in
    let not = c.in-If.not in
    let start = c.in-If.start in
    went_on (else_if_begun old) ElseIf _ (between_branches not start old) _ _ _ _ _ _ c.in-Some.block (If not start)
    (c.enter.ensures.code ∙ c.in_ok-past.ensures.code ∙ ap (between_branches not start) c.leave.ensures.code)
    c.in_ok-enter.ensures.blocks (c.in_ok-past.ensures.number ∙ ap length c.leave.ensures.code) c.go_past.ensures.blocks
    c.in-Some.ensures.block c.in-If.is refl
