use Rattle.std.proofs.Common.{ap, subst, ◌∙◌, string_bytes}
use Rattle.upon_types.specs.View.{view}
use Rattle.upon_engine.specs.Changes.{with_text}
use Rattle.upon_engine.specs.Faults.{IsSyntaxErrorOf}
use Rattle.upon.proofs.Shown.{refused, shown, stopped, unflushed, whole}
use Rattle.upon.proofs.program.render.Goals as goal

pub returns-in_err-add_template : goal.returns-in_err-add_template
returns-in_err-add_template g c =
    let name = c.args.name.now in
    let text = string_bytes c.args.source in
    let faulty = subst (λ d. IsSyntaxErrorOf name d text c.in_err-add_template.field-0.0) (ap (λ t. t.syntax) c.new-engine.ensures) c.in_err-add_template.ensures.fault in
    refused name text (view c.args.context.now) c.in_err-add_template.field-0.0 c.from_residual.result _ c.from_residual.ensures.1 faulty

pub returns-in_err-rendered : goal.returns-in_err-rendered
returns-in_err-rendered g c =
    let name = c.args.name.now in
    let text = string_bytes c.args.source in
    let v = view c.args.context.now in
    let is = c.in_ok-add_template.ensures.engine ∙ ap (with_text name text) c.new-engine.ensures in
    stopped name text v c.in_err-rendered.field-0.0 c.in-Some.rendered c.from_residual-in_err-rendered.result _ _ c.in_err-rendered.was c.from_residual-in_err-rendered.ensures.1
    (shown _ name text v c.in-Some.rendered _ _ is c.held_has_tree.ensures c.in-Some.ensures.means)

pub returns-in_err-flush : goal.returns-in_err-flush
returns-in_err-flush g c =
    let name = c.args.name.now in
    let text = string_bytes c.args.source in
    let v = view c.args.context.now in
    let is = c.in_ok-add_template.ensures.engine ∙ ap (with_text name text) c.new-engine.ensures in
    unflushed _ name text v c.in-Some.rendered c.from_residual-in_err-flush.result _ _ _ c.in_ok-rendered.was c.from_residual-in_err-flush.ensures.1 c.in_err-flush.ensures.bytes
    (shown _ name text v c.in-Some.rendered _ _ is c.held_has_tree.ensures c.in-Some.ensures.means)

pub returns : goal.returns
returns g c =
    let name = c.args.name.now in
    let text = string_bytes c.args.source in
    let v = view c.args.context.now in
    let is = c.in_ok-add_template.ensures.engine ∙ ap (with_text name text) c.new-engine.ensures in
    whole name text v c.in-Some.rendered _ _ _ c.in_ok-rendered.was c.in_ok-flush.ensures.bytes
    (shown _ name text v c.in-Some.rendered _ _ is c.held_has_tree.ensures c.in-Some.ensures.means)
