use Rattle.std.proofs.Common.{ap, sym, ◌∙◌, None, inl, inr}
use Rattle.upon_types.specs.View.{view}
use Rattle.upon_vm.specs.Reports.{IsAnyIo, WritesReported}
use Rattle.upon_engine.specs.Template.{template_of}
use Rattle.upon_engine.proofs.Renderings.{on_value}
use Rattle.upon_engine.proofs.Tables.{made, handed, no_memory, nothing_yet, sends_by}
use Rattle.upon_engine.proofs.engine.Engine.render_text_to.Goals as goal

pub returns-in_err-template-clause-means : goal.returns-in_err-template-clause-means
returns-in_err-template-clause-means g c tree has table it =
    let error = c.in_err-template.field-0.0 in
    let refused = c.in_err-template.ensures in
    rw (handed error c.from_residual.result c.from_residual.ensures.1) (inr (inl (no_memory _ c.args.source.now error tree refused.fault refused.no_tree has), nothing_yet _ _))

pub returns-clause-means : goal.returns-clause-means
returns-clause-means g c tree has =
    let built = c.in_ok-template.ensures in
    let t = template_of c.in_ok-template.template in
    let r = c.render_from.ensures in
    let said = on_value _ _ (λ limit o. WritesReported limit IsAnyIo c.to_writer.result (g.W.Write.contents c.args.out.now) (g.W.Write.contents c.to_writer.new.writer) o) _ _ c.render_from.result _ _ _ _ _ r.engine r.templates r.template r.name r.limit r.value c.to_writer.ensures.means in
    let is = ap (λ s. made s t.tree) built.source ∙ ap (made c.args.source.now) (sym (built.only_tree tree has)) in
    sends_by _ _ c.args.self.now None t c.args.source.now tree (view c.args.value.now) c.to_writer.result _ _ is said

pub returns-clause-unwritten : goal.returns-clause-unwritten
returns-clause-unwritten g c none = absurd (none _ c.in_ok-template.ensures.has_tree)
