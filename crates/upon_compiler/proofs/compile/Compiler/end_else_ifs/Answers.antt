use Rattle.std.proofs.Common.{◌≡◌, length, sym, ap, ◌∙◌, arith}
use Rattle.upon_compiler.proofs.Blocks.{else_if_step, same_state}
use Rattle.upon_compiler.specs.Compiler.{blocks_of, code_of}
use Rattle.upon_compiler.proofs.compile.Compiler.end_else_ifs.Goals as goal

pub loop-block-smaller : goal.loop-block-smaller
loop-block-smaller c =
    let less = c.in-Some.ensures.block.0 in
    let same : length (blocks_of c.end_branch.new.self) ≡ length (blocks_of c.leave_else_if.new.self) = ap length c.end_branch.ensures.blocks in
    omega (arith, less, same)

pub loop-block-preserved : goal.loop-block-preserved
loop-block-preserved c =
    else_if_step c.in-Some.block (code_of c.loop-block.self) _ _ (blocks_of c.loop-block.self) (blocks_of c.leave_else_if.new.self) _
    c.in-Some.ensures.block.1 c.end_branch.ensures.code c.leave_else_if.ensures.code
    c.end_branch.ensures.blocks
    ∙ c.loop-block.invariant

pub returns : goal.returns
returns c =
    let stays = c.in_default.ensures.block in
    same_state _ _ _ _ c.leave_else_if.ensures.code stays.0
    ∙ sym (stays.1 (code_of c.loop-block.self))
    ∙ c.loop-block.invariant
