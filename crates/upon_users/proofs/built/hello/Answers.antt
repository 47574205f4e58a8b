use Rattle.std.proofs.Common.{codes, sym, ap, ◌∙◌, subst}
use Rattle.upon_language_spec.specs.DefaultDelimiters.{default_delimiters}
use Rattle.upon_language_spec.specs.Grammar.{HasTree}
use Rattle.upon_engine.specs.Changes.{with_text}
use Rattle.upon_users.proofs.BuiltEngines.{no_fault, handed_out, out_is_text}
use Rattle.upon_users.proofs.Hello.{hello_text, tree, hello_tree, hello_said}
use Rattle.upon_users.proofs.built.hello.Goals as goal

pub returns-in_err-context : goal.returns-in_err-context
returns-in_err-context c = out_is_text _ _ c.from_residual.ensures.1

pub returns-in_err-add_template : goal.returns-in_err-add_template
returns-in_err-add_template c =
    let has = subst (λ d. HasTree d hello_text tree) (sym (ap (λ t. t.syntax) c.new-engine.ensures)) hello_tree in
    let out = no_fault (codes "hello") _ hello_text c.in_err-add_template.field-0.0 tree c.in_err-add_template.ensures.fault c.in_err-add_template.ensures.no_tree has in
    out_is_text _ _ (handed_out _ _ c.from_residual-in_err-add_template.ensures.1 out)

pub returns : goal.returns
returns c =
    let one = c.in_ok-add_template.ensures.engine ∙ ap (with_text (codes "hello") hello_text) c.new-engine.ensures in
    let said = c.in-Some.ensures.means (record { text = hello_text; syntax = default_delimiters }) tree (ap (λ t. t.texts (codes "hello")) one) ∣ hello_tree ∣₁ in
    hello_said _ c.args.name.now _ c.in-Some.rendered one c.in_ok-context.ensures said
