use Rattle.std.proofs.Common.{ap, sym, ◌∙◌, Some}
use Rattle.std.specs.BTreeMap.{get_by_text}
use Rattle.upon_types.specs.View.{view}
use Rattle.upon_engine.specs.Template.{template_of}
use Rattle.upon_engine.proofs.Tables.{held_named}
use Rattle.upon_engine.proofs.InLimits.{answers_within_by}
use Rattle.upon_engine.proofs.engine.Engine.render_template_within.Goals as goal

pub returns-clause-means : goal.returns-clause-means
returns-clause-means g c held tree there has =
    let t = template_of c.in_ok-template.template.now in
    let is = ap template_of c.lent.ensures ∙ held_named (get_by_text c.args.self.now.templates c.args.name.now) t held tree (sym c.in_ok-template.ensures) there has in
    answers_within_by _ _ c.args.self.now c.args.limits.now (Some c.args.name.now) (template_of c.lent.result.now) held.text tree (view c.args.value.now) c.text_within.result is c.text_within.ensures
