use Rattle.std.proofs.Common.{ap, ◌∙◌}
use Rattle.std.proofs.lemmas.List.{map-append}
use Rattle.upon_compiler.specs.Program.{instr_of, program_view}
use Rattle.upon_compiler.proofs.compile.Compiler.append.Goals as goal

pub returns-clause-code : goal.returns-clause-code
returns-clause-code c =
    ap program_view c.in_ok-append.ensures.items ∙ map-append instr_of c.args.self.now.instrs.items c.args.code.now.items
