use Rattle.std.proofs.Common.{refl}
use Rattle.upon_compiler.proofs.Blocks.{if_closed, none_open}
use Rattle.upon_compiler.specs.After.{if_ended}
use Rattle.upon_compiler.specs.Compiler.{code_of}
use Rattle.upon_compiler.proofs.compile.Compiler.end_if.Goals as goal

pub returns-in_default : goal.returns-in_default
returns-in_default c =
    none_open (if_ended (code_of c.args.self.now)) _ _ _ _ c.leave.ensures.code c.leave.ensures.blocks c.in_default.ensures.block refl

pub returns : goal.returns
returns c =
    if_closed (code_of c.args.self.now) _ _ _ _ _ c.in-Some.block _ c.end_else_ifs.ensures c.end_branch.ensures.code c.leave.ensures.code
    c.end_branch.ensures.blocks c.in-Some.ensures.block
