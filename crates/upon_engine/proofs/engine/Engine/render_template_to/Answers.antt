use Rattle.std.specs.BTreeMap.{get_by_text}
use Rattle.upon_types.specs.View.{view}
use Rattle.upon_vm.specs.Reports.{IsAnyIo, WritesReported}
use Rattle.upon_engine.specs.Engine.{engine_depth}
use Rattle.upon_engine.specs.TemplateRef.{ref_template}
use Rattle.upon_engine.proofs.Renderings.{on_value}
use Rattle.upon_engine.proofs.Tables.{held_named, sends_by}
use Rattle.std.proofs.Common.{ap, sym, ◌∙◌, Some}
use Rattle.upon_engine.proofs.engine.Engine.render_template_to.Goals as goal

pub returns-clause-means : goal.returns-clause-means
returns-clause-means g c held tree there has =
    let found = c.in_ok-template.ensures in
    let r = c.render_from.ensures in
    let t = c.in_ok-template.template in
    let said = on_value _ _ (λ limit o. WritesReported limit IsAnyIo c.to_writer.result (g.W.Write.contents c.args.out.now) (g.W.Write.contents c.to_writer.new.writer) o) _ _ c.render_from.result _ _ _ _ _ (r.engine ∙ found.engine) (r.templates ∙ found.engine) r.template (r.name ∙ ap Some found.name) (r.limit ∙ ap engine_depth found.engine) r.value c.to_writer.ensures.means in
    let is = held_named (get_by_text c.args.self.now.templates c.args.name.now) (ref_template t) held tree (sym found.template) there has in
    sends_by _ _ c.args.self.now (Some c.args.name.now) (ref_template t) held.text tree (view c.args.value.now) c.to_writer.result _ _ is said
