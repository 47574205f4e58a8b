use Rattle.std.proofs.Common.{◌≡◌, length}
use Rattle.upon_compiler.specs.After.{else_ifs_ended}
use Rattle.upon_compiler.specs.Compiler.{blocks_of, code_of}
use Rattle.upon_compiler.proofs.compile.Compiler.end_else_ifs.Given as goal

-- the rest of the work gives what the whole does
abbrev pub invariant-loop-block : goal.invariant-loop-block
invariant-loop-block l =
    else_ifs_ended (code_of l.self) (blocks_of l.self) ≡ else_ifs_ended (code_of l.initial.self) (blocks_of l.initial.self)

abbrev pub decreases-loop-block : goal.decreases-loop-block
decreases-loop-block l = length (blocks_of l.self)
