use Rattle.std.proofs.Common.{ap, sym, ◌∙◌, Some}
use Rattle.std.specs.BTreeMap.{get_by_text}
use Rattle.upon_types.specs.View.{view}
use Rattle.upon_engine.specs.Engine.{engine_depth}
use Rattle.upon_engine.specs.Sources.{engine_of_templates, value_in}
use Rattle.upon_engine.specs.TemplateRef.{ref_template}
use Rattle.upon_engine.proofs.Tables.{held_named}
use Rattle.upon_html.proofs.Rendered.{same_engine, gives, answers_all, markup_of}
use Rattle.upon_html.proofs.pages.render_template.Goals as goal

pub returns-clause-means : goal.returns-clause-means
returns-clause-means g c held tree there has =
    let found = c.in_ok-template.ensures in
    let t = c.in_ok-template.template in
    let r = c.render_from-page.ensures in
    let w = c.with_callables.ensures in
    let same = same_engine _ _ _ w.engine c.new.ensures in
    let said = gives _ _ c.to_string.result c.with_callables.result _ _ _ _ _ same (ap engine_of_templates w.templates ∙ (r.templates ∙ found.engine)) (w.template ∙ r.template) (w.name ∙ (r.name ∙ ap Some found.name)) (w.limit ∙ (r.limit ∙ ap engine_depth found.engine)) (ap value_in w.values ∙ r.value) c.to_string.ensures.means in
    let is = held_named (get_by_text c.args.engine.now.templates c.args.name.now) (ref_template t) held tree (sym found.template) there has in
    answers_all _ _ c.args.engine.now (Some c.args.name.now) (ref_template t) held.text tree (view c.args.value.now) c.to_string.result is said

pub returns-clause-markup : goal.returns-clause-markup
returns-clause-markup g c held tree table there has it = markup_of _ _ c.args.engine.now (Some c.args.name.now) held.text tree (view c.args.value.now) c.to_string.result (returns-clause-means g c held tree there ∣ has ∣₁) table it
