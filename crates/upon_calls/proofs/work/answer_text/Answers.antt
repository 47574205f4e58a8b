use Rattle.std.proofs.Common.{None, true, false, refl, sym, ◌∙◌}
use Rattle.upon_types.specs.View.{view}
use Rattle.upon_engine.specs.Answers.{AnswersText}
use Rattle.upon_engine.specs.Template.{template_of}
use Rattle.upon_engine.proofs.Renderings.{on_value}
use Rattle.upon_engine.proofs.Tables.{answers_by}
use Rattle.upon_vm.specs.Limits.{is_limited}
use Rattle.upon_calls.proofs.Rendering.{answered_if}
use Rattle.upon_calls.proofs.work.answer_text.Goals as goal

pub returns-then-is_limited : goal.returns-then-is_limited
returns-then-is_limited g c =
    let t = template_of c.args.template.now in
    answered_if c.args.limits.now _ None t.source t.tree (view c.args.value.now) (is_limited c.args.limits.now) true c.render_text_within.result (sym c.is_limited.ensures ∙ c.if-is_limited.true) (rw c.source.ensures.source at c.render_text_within.ensures.means t.tree c.requires)

pub returns-else-is_limited : goal.returns-else-is_limited
returns-else-is_limited g c =
    let t = template_of c.args.template.now in
    let r = c.render_from.ensures in
    let said = on_value _ _ (λ limit o. AnswersText limit o c.to_string.result) _ _ c.render_from.result _ _ _ _ _ r.engine r.templates r.template r.name r.limit r.value c.to_string.ensures.means in
    answered_if c.args.limits.now _ None t.source t.tree (view c.args.value.now) (is_limited c.args.limits.now) false c.to_string.result (sym c.is_limited.ensures ∙ c.if-is_limited.false) (answers_by _ _ c.args.engine.now None t t.source t.tree (view c.args.value.now) c.to_string.result refl said)
