use Rattle.std.proofs.Common.{ap, sym, ◌∙◌, None, inl, inr, refl}
use Rattle.upon_types.specs.View.{view}
use Rattle.upon_vm.proofs.Turns.{nothing_within}
use Rattle.upon_engine.specs.Template.{template_of}
use Rattle.upon_engine.proofs.Tables.{made, handed, no_memory, nothing_yet}
use Rattle.upon_engine.proofs.InLimits.{sends_within_by}
use Rattle.upon_engine.proofs.engine.Engine.render_text_to_within.Goals as goal

pub returns-in_err-template-clause-means : goal.returns-in_err-template-clause-means
returns-in_err-template-clause-means g c tree has table it =
    let error = c.in_err-template.field-0.0 in
    let refused = c.in_err-template.ensures in
    rw (handed error c.from_residual.result c.from_residual.ensures.1) (inr (inl (no_memory _ c.args.source.now error tree refused.fault refused.no_tree has), nothing_yet _ _))

pub returns-in_err-template-clause-bounded : goal.returns-in_err-template-clause-bounded
returns-in_err-template-clause-bounded g c = nothing_within _ _ _ refl

pub returns-clause-means : goal.returns-clause-means
returns-clause-means g c tree has =
    let built = c.in_ok-template.ensures in
    let t = template_of c.in_ok-template.template in
    let is = ap template_of c.lent.ensures ∙ ap (λ s. made s t.tree) built.source ∙ ap (made c.args.source.now) (sym (built.only_tree tree has)) in
    sends_within_by _ _ c.args.self.now c.args.limits.now None (template_of c.lent.result.now) c.args.source.now tree (view c.args.value.now) c.send_within.result _ _ is c.send_within.ensures.means

pub returns-clause-unwritten : goal.returns-clause-unwritten
returns-clause-unwritten g c none = absurd (none _ c.in_ok-template.ensures.has_tree)
