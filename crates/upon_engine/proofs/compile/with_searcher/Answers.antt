use Rattle.std.proofs.Common.{◌≡◌, sym, ◌∙◌, subst}
use Rattle.std.specs.Cow.{cow_str_bytes}
use Rattle.upon_types.specs.Error.{fault_of}
use Rattle.upon_types.specs.Fault.{syntax}
use Rattle.upon_types.specs.Tree.{Statements}
use Rattle.upon_types.specs.declared.error.Error.{Error}
use Rattle.upon_language_spec.specs.Grammar.{HasTree}
use Rattle.upon_delimiters.specs.Searcher.{searcher_delimiters}
use Rattle.upon_syntax.proofs.NextTokens.{handed_on}
use Rattle.upon_compiler.specs.Compiled.{HasProgram}
use Rattle.upon_compiler.proofs.CompiledTree.{kept_has, kept_only}
use Rattle.upon_engine.specs.Template.{template_source, template_syntax, template_tree}
use Rattle.upon_engine.proofs.compile.with_searcher.Goals as goal

pub from_parts-requires : goal.from_parts-requires
from_parts-requires c =
    let instrs = c.in_ok-instrs.instrs.items in
    subst (λ d. HasProgram d (cow_str_bytes c.args.source) instrs) (sym (c.in_ok-syntax.ensures.list ∙ c.syntax.ensures)) (subst (λ s. HasProgram (searcher_delimiters c.args.searcher.now) s instrs) c.as_str.ensures.value c.in_ok-instrs.ensures.program)

pub returns-clause-has_tree : goal.returns-clause-has_tree
returns-clause-has_tree c =
    let t = c.from_parts.result in
    let d = searcher_delimiters c.args.searcher.now in
    let s = c.as_str.result.now in
    let some = c.in_ok-instrs.ensures.has_tree in
    let has : HasTree d s some.0 = some.1 in
    let kept = kept_has d (template_syntax t) (sym (c.from_parts.ensures.syntax ∙ (c.in_ok-syntax.ensures.list ∙ c.syntax.ensures))) s (template_source t) t.instrs.items t.is_compiled some.0 (c.as_str.ensures.value ∙ sym c.from_parts.ensures.source) has in
    subst (λ x. HasTree d x (template_tree t)) c.from_parts.ensures.source kept

pub returns-clause-only_tree : goal.returns-clause-only_tree
returns-clause-only_tree c tree has =
    let t = c.from_parts.result in
    let d = searcher_delimiters c.args.searcher.now in
    kept_only d (template_syntax t) (sym (c.from_parts.ensures.syntax ∙ (c.in_ok-syntax.ensures.list ∙ c.syntax.ensures))) (template_source t) t.instrs.items t.is_compiled tree (subst (λ x. HasTree d x tree) (sym c.from_parts.ensures.source) has)

pub returns-in_err-instrs-clause-no_tree : goal.returns-in_err-instrs-clause-no_tree
returns-in_err-instrs-clause-no_tree c =
    let d = searcher_delimiters c.args.searcher.now in
    let P : Error → Type 0 = λ e. (fault_of e).kind ≡ syntax → (tree : Statements) → HasTree d (cow_str_bytes c.args.source) tree → ⊥ in
    let none : P c.in_err-instrs.field-0.0 = λ kind tree has.
    c.in_err-instrs.ensures.no_tree kind tree (subst (λ x. HasTree d x tree) (sym c.as_str.ensures.value) has) in
    handed_on P c.in_err-instrs.field-0.0 c.from_residual-in_err-instrs.result c.from_residual-in_err-instrs.ensures.1 none
