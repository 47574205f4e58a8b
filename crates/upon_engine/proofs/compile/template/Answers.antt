use Rattle.std.proofs.Common.{◌≡◌, sym, ◌∙◌, subst}
use Rattle.std.specs.Cow.{cow_str_bytes}
use Rattle.upon_types.specs.Error.{fault_of}
use Rattle.upon_types.specs.Fault.{syntax}
use Rattle.upon_types.specs.Tree.{Statements}
use Rattle.upon_types.specs.declared.error.Error.{Error}
use Rattle.upon_language_spec.specs.Grammar.{HasTree}
use Rattle.upon_delimiters.specs.Searcher.{searcher_delimiters}
use Rattle.upon_delimiters.specs.Syntax.{syntax_delimiters}
use Rattle.upon_syntax.proofs.NextTokens.{handed_on}
use Rattle.upon_compiler.specs.Compiled.{HasProgram}
use Rattle.upon_compiler.proofs.CompiledTree.{kept_has, kept_only}
use Rattle.upon_engine.specs.Template.{template_source, template_syntax, template_tree}
use Rattle.upon_engine.proofs.OldTrees.{keeps_old_tree, refused_had_none}
use Rattle.upon_engine.proofs.compile.template.Goals as goal

pub from_parts-requires : goal.from_parts-requires
from_parts-requires c =
    let instrs = c.in_ok-instrs.instrs.items in
    subst (λ d. HasProgram d (cow_str_bytes c.args.source) instrs) (sym c.into_syntax.ensures) (subst (λ s. HasProgram (searcher_delimiters c.with_syntax-searcher.result) s instrs) c.as_str.ensures.value c.in_ok-instrs.ensures.program)

pub returns-clause-has_tree : goal.returns-clause-has_tree
returns-clause-has_tree c =
    let t = c.from_parts.result in
    let d = syntax_delimiters c.args.syntax.now in
    let s = c.as_str.result.now in
    let some = c.in_ok-instrs.ensures.has_tree in
    let has : HasTree d s some.0 = subst (λ x. HasTree x s some.0) (c.with_syntax-searcher.ensures ∙ c.in_ok-try_clone.ensures.list) some.1 in
    let kept = kept_has d (template_syntax t) (sym (c.from_parts.ensures.syntax ∙ (c.into_syntax.ensures ∙ (c.with_syntax-searcher.ensures ∙ c.in_ok-try_clone.ensures.list)))) s (template_source t) t.instrs.items t.is_compiled some.0 (c.as_str.ensures.value ∙ sym c.from_parts.ensures.source) has in
    subst (λ x. HasTree d x (template_tree t)) c.from_parts.ensures.source kept

pub returns-clause-only_tree : goal.returns-clause-only_tree
returns-clause-only_tree c tree has =
    let t = c.from_parts.result in
    let d = syntax_delimiters c.args.syntax.now in
    kept_only d (template_syntax t) (sym (c.from_parts.ensures.syntax ∙ (c.into_syntax.ensures ∙ (c.with_syntax-searcher.ensures ∙ c.in_ok-try_clone.ensures.list)))) (template_source t) t.instrs.items t.is_compiled tree (subst (λ x. HasTree d x tree) (sym c.from_parts.ensures.source) has)

pub returns-in_err-instrs-clause-no_tree : goal.returns-in_err-instrs-clause-no_tree
returns-in_err-instrs-clause-no_tree c =
    let d = syntax_delimiters c.args.syntax.now in
    let P : Error → Type 0 = λ e. (fault_of e).kind ≡ syntax → (tree : Statements) → HasTree d (cow_str_bytes c.args.source) tree → ⊥ in
    let none : P c.in_err-instrs.field-0.0 = λ kind tree has.
    c.in_err-instrs.ensures.no_tree kind tree (subst (λ x. HasTree x c.as_str.result.now tree) (sym (c.with_syntax-searcher.ensures ∙ c.in_ok-try_clone.ensures.list)) (subst (λ x. HasTree d x tree) (sym c.as_str.ensures.value) has)) in
    handed_on P c.in_err-instrs.field-0.0 c.from_residual-in_err-instrs.result c.from_residual-in_err-instrs.ensures.1 none

pub returns-clause-kept : goal.returns-clause-kept
returns-clause-kept c = keeps_old_tree _ _ _ (returns-clause-only_tree c)

pub returns-in_err-instrs-clause-accepted : goal.returns-in_err-instrs-clause-accepted
returns-in_err-instrs-clause-accepted c = refused_had_none _ _ _ (returns-in_err-instrs-clause-no_tree c)
