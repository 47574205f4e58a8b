use Rattle.std.proofs.Common.{ap, sym, ◌∙◌, None, inr}
use Rattle.upon_types.specs.View.{view}
use Rattle.upon_engine.specs.Answers.{AnswersText}
use Rattle.upon_engine.specs.Template.{template_of}
use Rattle.upon_engine.proofs.Renderings.{on_value}
use Rattle.upon_engine.proofs.Tables.{made, handed, no_memory, answers_by}
use Rattle.upon_engine.proofs.engine.Engine.render_text.Goals as goal

pub returns-in_err-template-clause-means : goal.returns-in_err-template-clause-means
returns-in_err-template-clause-means g c tree has table it =
    let error = c.in_err-template.field-0.0 in
    let refused = c.in_err-template.ensures in
    rw (handed error c.from_residual.result c.from_residual.ensures.1) (inr (no_memory _ c.args.source.now error tree refused.fault refused.no_tree has))

pub returns-clause-means : goal.returns-clause-means
returns-clause-means g c tree has =
    let built = c.in_ok-template.ensures in
    let t = template_of c.in_ok-template.template in
    let r = c.render_from.ensures in
    let said = on_value _ _ (λ limit o. AnswersText limit o c.to_string.result) _ _ c.render_from.result _ _ _ _ _ r.engine r.templates r.template r.name r.limit r.value c.to_string.ensures.means in
    let is = ap (λ s. made s t.tree) built.source ∙ ap (made c.args.source.now) (sym (built.only_tree tree has)) in
    answers_by _ _ c.args.self.now None t c.args.source.now tree (view c.args.value.now) c.to_string.result is said
