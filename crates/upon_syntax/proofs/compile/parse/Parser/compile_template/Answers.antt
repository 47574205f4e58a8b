use Rattle.std.proofs.Common.{◌≡◌, Vec, Global, inl, inr, ap, sym, ◌∙◌}
use Rattle.upon_types.specs.declared.error.Error.{Error}
use Rattle.upon_types.specs.Error.{fault_of}
use Rattle.upon_types.specs.Fault.{Fault, syntax, memory}
use Rattle.upon_types.specs.Tree.{Statements}
use Rattle.upon_language_spec.specs.Grammar.{HasTree}
use Rattle.upon_language_spec.proofs.OneTree.Tree.{one_whole_tree}
use Rattle.upon_language_spec.proofs.NoTreeWithFault.Fault.{no_tree_with_fault}
use Rattle.upon_machine_spec.specs.Code.{program_of}
use Rattle.upon_compiler.specs.Program.{program_view}
use Rattle.upon_compiler.specs.declared.types.program.Instr.{Instr}
use Rattle.upon_syntax.specs.TagReading.{IsSyntaxError}
use Rattle.upon_syntax.specs.Parsed.{source_of, syntax_of, IsParsedProgram}
use Rattle.upon_syntax.proofs.NextTokens.{ok_on, err_on}
use Rattle.upon_syntax.proofs.compile.parse.Parser.compile_template.Goals as goal

pub returns-clause-only_tree : goal.returns-clause-only_tree
returns-clause-only_tree c =
    let delimiters = syntax_of c.args.self in
    let s = source_of c.args.self in
    let texts = c.args.self.searcher.now.syntax.has_texts in
    let P : Vec Instr Global → Type 0 = λ code. IsParsedProgram delimiters s code.items in
    let Q : Vec Instr Global → Type 0 = λ code. (tree : Statements) → HasTree delimiters s tree → program_view code.items ≡ program_of tree in
    ok_on P Q c.read_program.result (λ code is tree has. is.program ∙ ap program_of (one_whole_tree delimiters s is.tree tree texts is.has_tree has)) c.read_program.ensures.program

pub returns-clause-no_tree : goal.returns-clause-no_tree
returns-clause-no_tree c =
    let delimiters = syntax_of c.args.self in
    let s = source_of c.args.self in
    let texts = c.args.self.searcher.now.syntax.has_texts in
    let P : Error → Type 0 = λ e. IsSyntaxError delimiters s e in
    let Q : Error → Type 0 = λ e. (fault_of e).kind ≡ syntax → (tree : Statements) → HasTree delimiters s tree → ⊥ in
    err_on P Q c.read_program.result (λ e fault kind tree has. elim fault [
      | inl out ↦ let other : (fault_of e).kind ≡ memory = ap (λ (f : Fault). f.kind) out in let e : syntax ≡ memory = sym kind ∙ other in cc
      | inr first ↦ no_tree_with_fault delimiters s first.0 first.1 tree texts first.2 has
    ]) c.read_program.ensures.fault
