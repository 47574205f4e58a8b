use Rattle.std.proofs.Common.{◌≡◌, Some, codes, sym, ap, ◌∙◌, subst}
use Rattle.upon_types.specs.Answers.{Formatter, Function, formatter, function}
use Rattle.upon_types.specs.View.{view}
use Rattle.upon_language_spec.specs.Grammar.{HasTree}
use Rattle.upon_engine.specs.Changes.{empty_engine, with_callable, with_syntax, with_text}
use Rattle.upon_engine.specs.Texts.{Texts}
use Rattle.upon_engine.specs.Theorem.{AnswersTree}
use Rattle.upon_engine.proofs.Boxed.{boxed_reads}
use Rattle.upon_users.specs.Page.{angles, starred, banged, name_text, page_text, name_tree, page_tree, page_engine}
use Rattle.upon_users.proofs.BuiltEngines.{no_fault, handed_out, out_answers}
use Rattle.upon_users.proofs.Page.{name_has, page_has}
use Rattle.upon_users.proofs.built.page.OwnLists.{own-1, own-2, at-1-1, at-2-1}
use Rattle.upon_users.proofs.built.page.Goals as goal

-- what the engine holds after each step
with_star : (b : Texts) → b ≡ empty_engine → (a : Texts) (f : Formatter) → a ≡ with_callable (codes "star") (formatter f) b → f ≡ starred
    → a ≡ with_callable (codes "star") (formatter starred) empty_engine
with_star b before a f is same = is ∙ λ i. with_callable (codes "star") (formatter (same i)) (before i)

with_bang : (b : Texts) → b ≡ with_callable (codes "star") (formatter starred) empty_engine → (a : Texts) (f : Function) → a ≡ with_callable (codes "bang") (function f) b → f ≡ banged
    → a ≡ with_callable (codes "bang") (function banged) (with_callable (codes "star") (formatter starred) empty_engine)
with_bang b before a f is same = is ∙ λ i. with_callable (codes "bang") (function (same i)) (before i)

pub returns-in_err-star : goal.returns-in_err-star
returns-in_err-star c = out_answers page_engine (Some (codes "page")) page_text page_tree (view c.args.value.now) _ c.from_residual.ensures.1

pub returns-in_err-add_formatter : goal.returns-in_err-add_formatter
returns-in_err-add_formatter c = out_answers page_engine (Some (codes "page")) page_text page_tree (view c.args.value.now) _ c.from_residual-in_err-add_formatter.ensures.1

pub returns-in_err-bang : goal.returns-in_err-bang
returns-in_err-bang c = out_answers page_engine (Some (codes "page")) page_text page_tree (view c.args.value.now) _ c.from_residual-in_err-bang.ensures.1

pub returns-in_err-add_function : goal.returns-in_err-add_function
returns-in_err-add_function c = out_answers page_engine (Some (codes "page")) page_text page_tree (view c.args.value.now) _ c.from_residual-in_err-add_function.ensures.1

pub returns-in_err-syntax : goal.returns-in_err-syntax
returns-in_err-syntax c = out_answers page_engine (Some (codes "page")) page_text page_tree (view c.args.value.now) _ c.from_residual-in_err-syntax.ensures.1

pub returns-in_err-add_template : goal.returns-in_err-add_template
returns-in_err-add_template c =
    let first = with_star _ c.new-engine.ensures _ _ c.in_ok-add_formatter.ensures.engine (boxed_reads own-1 at-1-1 _ (λ j v. j.1.formats v) _ _ _ c.into_dyn_box.ensures.1) in
    let second = with_bang _ first _ _ c.in_ok-add_function.ensures.engine (boxed_reads own-2 at-2-1 _ (λ j v. j.1.answers v) _ _ _ c.into_dyn_box-2.ensures.1) in
    let has = subst (λ d. HasTree d name_text name_tree) (sym (ap (λ t. t.syntax) second)) name_has in
    let out = no_fault (codes "name") _ name_text c.in_err-add_template.field-0.0 name_tree c.in_err-add_template.ensures.fault c.in_err-add_template.ensures.no_tree has in
    out_answers page_engine (Some (codes "page")) page_text page_tree (view c.args.value.now) _ (handed_out _ _ c.from_residual-in_err-add_template.ensures.1 out)

pub returns-in_err-add_template-2 : goal.returns-in_err-add_template-2
returns-in_err-add_template-2 c =
    let has = subst (λ d. HasTree d page_text page_tree) (sym (ap (λ t. t.syntax) c.set_syntax.ensures ∙ c.in_ok-syntax.ensures)) page_has in
    let out = no_fault (codes "page") _ page_text c.in_err-add_template-2.field-0.0 page_tree c.in_err-add_template-2.ensures.fault c.in_err-add_template-2.ensures.no_tree has in
    out_answers page_engine (Some (codes "page")) page_text page_tree (view c.args.value.now) _ (handed_out _ _ c.from_residual-in_err-add_template-2.ensures.1 out)

pub returns : goal.returns
returns c =
    let first = with_star _ c.new-engine.ensures _ _ c.in_ok-add_formatter.ensures.engine (boxed_reads own-1 at-1-1 _ (λ j v. j.1.formats v) _ _ _ c.into_dyn_box.ensures.1) in
    let second = with_bang _ first _ _ c.in_ok-add_function.ensures.engine (boxed_reads own-2 at-2-1 _ (λ j v. j.1.answers v) _ _ _ c.into_dyn_box-2.ensures.1) in
    let third = c.in_ok-add_template.ensures.engine ∙ ap (with_text (codes "name") name_text) second in
    let fourth = c.set_syntax.ensures ∙ λ i. with_syntax (c.in_ok-syntax.ensures i) (third i) in
    let last = c.in_ok-add_template-2.ensures.engine ∙ ap (with_text (codes "page") page_text) fourth in
    let said = c.in-Some.ensures.means (record { text = page_text; syntax = angles }) page_tree (ap (λ t. t.texts (codes "page")) last) ∣ page_has ∣₁ in
    subst (λ e. AnswersTree e (Some (codes "page")) page_text page_tree (view c.args.value.now) c.in-Some.rendered) last said
