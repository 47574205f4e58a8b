use Rattle.std.proofs.Common.{ap, sym, ◌∙◌, None, inl, inr}
use Rattle.upon_types.specs.View.{view}
use Rattle.upon_engine.specs.Template.{template_of}
use Rattle.upon_engine.proofs.Tables.{made, handed, no_memory}
use Rattle.upon_engine.proofs.InLimits.{answers_within_by}
use Rattle.upon_engine.proofs.engine.Engine.render_text_within.Goals as goal

pub returns-in_err-template-clause-means : goal.returns-in_err-template-clause-means
returns-in_err-template-clause-means g c tree has table it =
    let error = c.in_err-template.field-0.0 in
    let refused = c.in_err-template.ensures in
    rw (handed error c.from_residual.result c.from_residual.ensures.1) (inr (inl (no_memory _ c.args.source.now error tree refused.fault refused.no_tree has)))

pub returns-clause-means : goal.returns-clause-means
returns-clause-means g c tree has =
    let built = c.in_ok-template.ensures in
    let t = template_of c.in_ok-template.template in
    let is = ap template_of c.lent.ensures ∙ ap (λ s. made s t.tree) built.source ∙ ap (made c.args.source.now) (sym (built.only_tree tree has)) in
    answers_within_by _ _ c.args.self.now c.args.limits.now None (template_of c.lent.result.now) c.args.source.now tree (view c.args.value.now) c.text_within.result is c.text_within.ensures
