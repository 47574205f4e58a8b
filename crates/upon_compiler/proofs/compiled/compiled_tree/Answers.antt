use Rattle.upon_compiler.proofs.CompiledTree.{only, program, spans}
use Rattle.upon_compiler.proofs.compiled.compiled_tree.Goals as goal

pub returns : goal.returns
returns c = record {
  only_tree = λ delimiters s instrs h tree has. only delimiters s instrs h tree has;
  program = λ delimiters s instrs h. program delimiters s instrs h;
  spans = λ delimiters s instrs h. spans delimiters s instrs h;
}
