use Rattle.std.proofs.Common.{◌≡◌, inl, inr, ap, sym, ◌∙◌}
use Rattle.upon_types.specs.declared.error.Error.{Error}
use Rattle.upon_types.specs.Error.{fault_of}
use Rattle.upon_types.specs.Fault.{Fault, syntax, memory}
use Rattle.upon_types.specs.Tree.{Statements}
use Rattle.upon_language_spec.specs.Grammar.{HasTree}
use Rattle.upon_language_spec.proofs.OneTree.Tree.{one_whole_tree}
use Rattle.upon_language_spec.proofs.NoTreeWithFault.Fault.{no_tree_with_fault}
use Rattle.upon_tree.specs.Ast.{tree_of}
use Rattle.upon_tree.specs.declared.ast.Template.{Template}
use Rattle.upon_syntax.specs.TagReading.{IsSyntaxError}
use Rattle.upon_syntax.specs.Parsed.{source_of, syntax_of}
use Rattle.upon_syntax.proofs.NextTokens.{ok_on, err_on}
use Rattle.upon_syntax.proofs.compile.parse.Parser.parse_template.Goals as goal

pub returns-clause-only_tree : goal.returns-clause-only_tree
returns-clause-only_tree c =
    let delimiters = syntax_of c.args.self in
    let s = source_of c.args.self in
    let texts = c.args.self.searcher.now.syntax.has_texts in
    let P : Template → Type 0 = λ template. HasTree delimiters s (tree_of template) in
    let Q : Template → Type 0 = λ template. (tree : Statements) → HasTree delimiters s tree → tree ≡ tree_of template in
    ok_on P Q c.read_tree.result (λ template is tree has. one_whole_tree delimiters s tree (tree_of template) texts has is) c.read_tree.ensures.tree

pub returns-clause-no_tree : goal.returns-clause-no_tree
returns-clause-no_tree c =
    let delimiters = syntax_of c.args.self in
    let s = source_of c.args.self in
    let texts = c.args.self.searcher.now.syntax.has_texts in
    let P : Error → Type 0 = λ e. IsSyntaxError delimiters s e in
    let Q : Error → Type 0 = λ e. (fault_of e).kind ≡ syntax → (tree : Statements) → HasTree delimiters s tree → ⊥ in
    err_on P Q c.read_tree.result (λ e fault kind tree has. elim fault [
      | inl out ↦ let other : (fault_of e).kind ≡ memory = ap (λ (f : Fault). f.kind) out in let e : syntax ≡ memory = sym kind ∙ other in cc
      | inr first ↦ no_tree_with_fault delimiters s first.0 first.1 tree texts first.2 has
    ]) c.read_tree.ensures.fault
