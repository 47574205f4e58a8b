use Rattle.std.proofs.Common.{ap, sym, ◌∙◌, None, inr}
use Rattle.upon_types.specs.View.{view}
use Rattle.upon_engine.specs.Sources.{engine_of_templates, value_in}
use Rattle.upon_engine.specs.Template.{template_of}
use Rattle.upon_engine.proofs.Tables.{made, handed, no_memory}
use Rattle.upon_html.proofs.Rendered.{same_engine, gives, answers_all, markup_of}
use Rattle.upon_html.proofs.pages.render_text.Goals as goal

pub returns-in_err-template-clause-markup : goal.returns-in_err-template-clause-markup
returns-in_err-template-clause-markup g c tree table has it =
    rw (handed c.in_err-template.field-0.0 c.from_residual.result c.from_residual.ensures.1) tt

pub returns-in_err-template-clause-means : goal.returns-in_err-template-clause-means
returns-in_err-template-clause-means g c tree has table it =
    let error = c.in_err-template.field-0.0 in
    let refused = c.in_err-template.ensures in
    rw (handed error c.from_residual.result c.from_residual.ensures.1) (inr (no_memory _ c.args.source.now error tree refused.fault refused.no_tree has))

pub returns-clause-means : goal.returns-clause-means
returns-clause-means g c tree has =
    let built = c.in_ok-template.ensures in
    let t = template_of c.in_ok-template.template in
    let r = c.render_from-page.ensures in
    let w = c.with_callables.ensures in
    let same = same_engine _ _ _ w.engine c.new.ensures in
    let said = gives _ _ c.to_string.result c.with_callables.result _ _ _ _ _ same (ap engine_of_templates w.templates ∙ r.templates) (w.template ∙ r.template) (w.name ∙ r.name) (w.limit ∙ r.limit) (ap value_in w.values ∙ r.value) c.to_string.ensures.means in
    let is = ap (λ s. made s t.tree) built.source ∙ ap (made c.args.source.now) (sym (built.only_tree tree has)) in
    answers_all _ _ c.args.engine.now None t c.args.source.now tree (view c.args.value.now) c.to_string.result is said

pub returns-clause-markup : goal.returns-clause-markup
returns-clause-markup g c tree table has it = markup_of _ _ c.args.engine.now None c.args.source.now tree (view c.args.value.now) c.to_string.result (returns-clause-means g c tree has) table it
