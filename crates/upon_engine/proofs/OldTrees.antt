-- What a text's only tree, or that it has none, says of the tree that it had before `for .. else`.
use Rattle.std.proofs.Common.{◌≡◌, ℕ, List, sym, Result, Ok, Err, IfOk, IfErr}
use Rattle.upon_types.specs.Error.{fault_of}
use Rattle.upon_types.specs.Fault.{syntax}
use Rattle.upon_types.specs.Tree.{Statements}
use Rattle.upon_types.specs.declared.error.Error.{Error}
use Rattle.upon_language_spec.specs.Grammar.{HasTree}
use Rattle.upon_language_spec.specs.Search.{DelimiterText}
use Rattle.upon_before_spec.specs.Now.{statements_now}
use Rattle.upon_before_spec.proofs.TreeKept.{tree_kept}
use Rattle.upon_engine.specs.Before.{KeepsOldTree, HadNoTree}
use Rattle.upon_engine.specs.Template.{template_tree}
use Rattle.upon_engine.specs.declared.template.Template.{Template}

-- the only tree is the one that it had
pub keeps_old_tree : (delimiters : List DelimiterText) (s : List ℕ) (now : Statements) → ((tree : Statements) → HasTree delimiters s tree → tree ≡ now) → KeepsOldTree delimiters s now
keeps_old_tree delimiters s now only tree had = sym (only (statements_now tree) (tree_kept delimiters s tree had))

-- without a tree it had none
pub had_no_tree : (delimiters : List DelimiterText) (s : List ℕ) → ((tree : Statements) → HasTree delimiters s tree → ⊥) → HadNoTree delimiters s
had_no_tree delimiters s none tree had = none (statements_now tree) (tree_kept delimiters s tree had)

-- a template that is answered
pub answered_keeps : (delimiters : List DelimiterText) (s : List ℕ) (r : Result Template Error) → IfOk r (λ t. (tree : Statements) → HasTree delimiters s tree → tree ≡ template_tree t) → IfOk r (λ t. KeepsOldTree delimiters s (template_tree t))
answered_keeps delimiters s (Ok t) only = keeps_old_tree delimiters s (template_tree t) only
answered_keeps delimiters s (Err e) only = tt

-- a syntax fault that is answered
pub refused_had_none : {A : Type 0} (delimiters : List DelimiterText) (s : List ℕ) (r : Result A Error) → IfErr r (λ e. (fault_of e).kind ≡ syntax → (tree : Statements) → HasTree delimiters s tree → ⊥) → IfErr r (λ e. (fault_of e).kind ≡ syntax → HadNoTree delimiters s)
refused_had_none delimiters s (Ok a) none = tt
refused_had_none delimiters s (Err e) none = λ kind. had_no_tree delimiters s (none kind)
