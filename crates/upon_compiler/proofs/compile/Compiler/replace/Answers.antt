use Rattle.std.proofs.Common.{sym, arith}
use Rattle.std.proofs.lemmas.List.{length-map, map-set, set_past}
use Rattle.upon_compiler.specs.Compiler.{code_of}
use Rattle.upon_compiler.specs.Program.{instr_of}
use Rattle.upon_compiler.proofs.compile.Compiler.replace.Goals as goal

pub returns-then-at-count-clause-code : goal.returns-then-at-count-clause-code
returns-then-at-count-clause-code c = map-set instr_of c.args.self.now.instrs.items c.args.at c.args.instr

pub returns-else-at-count-clause-code : goal.returns-else-at-count-clause-code
returns-else-at-count-clause-code c =
    sym (set_past (code_of c.args.self.now) c.args.at (instr_of c.args.instr)
    (omega (arith, length-map c.args.self.now.instrs.items instr_of, c.len-count.ensures, c.if-at-count.false)))
