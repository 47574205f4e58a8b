-- What a parser of the whole language reads, and the program that it gives.
use Rattle.std.specs.Prelude.{◌≡◌, ℕ, List}
use Rattle.upon_types.specs.Tree.{Statements}
use Rattle.upon_language_spec.specs.Grammar.{HasTree}
use Rattle.upon_language_spec.specs.Search.{DelimiterText}
use Rattle.upon_machine_spec.specs.Code.{program_of}
use Rattle.upon_compiler.specs.Program.{program_view}
use Rattle.upon_compiler.specs.declared.types.program.Instr.{Instr}
use Rattle.upon_delimiters.specs.Searcher.{searcher_delimiters}
use Rattle.upon_syntax.specs.declared.compile.parse.Parser.{Parser}

-- the text that a parser reads
abbrev pub source_of : Parser → List ℕ
source_of parser = parser.source.now

-- its delimiters
abbrev pub syntax_of : Parser → List DelimiterText
syntax_of parser = searcher_delimiters parser.searcher.now

-- the instructions are the program of a tree that the text has
pub record IsParsedProgram (delimiters : List DelimiterText) (s : List ℕ) (code : List Instr) : Type 0 where
  pub tree : Statements
  pub has_tree : HasTree delimiters s tree
  pub program : program_view code ≡ program_of tree
