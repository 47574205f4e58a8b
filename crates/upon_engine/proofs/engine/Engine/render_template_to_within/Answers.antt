use Rattle.std.proofs.Common.{ap, sym, ◌∙◌, Some, refl}
use Rattle.std.specs.BTreeMap.{get_by_text}
use Rattle.upon_types.specs.View.{view}
use Rattle.upon_vm.proofs.Turns.{nothing_within}
use Rattle.upon_engine.specs.Template.{template_of}
use Rattle.upon_engine.proofs.Tables.{held_named}
use Rattle.upon_engine.proofs.InLimits.{sends_within_by}
use Rattle.upon_engine.proofs.engine.Engine.render_template_to_within.Goals as goal

pub returns-in_err-template-clause-bounded : goal.returns-in_err-template-clause-bounded
returns-in_err-template-clause-bounded g c = nothing_within _ _ _ refl

pub returns-clause-means : goal.returns-clause-means
returns-clause-means g c held tree there has =
    let t = template_of c.in_ok-template.template.now in
    let is = ap template_of c.lent.ensures ∙ held_named (get_by_text c.args.self.now.templates c.args.name.now) t held tree (sym c.in_ok-template.ensures) there has in
    sends_within_by _ _ c.args.self.now c.args.limits.now (Some c.args.name.now) (template_of c.lent.result.now) held.text tree (view c.args.value.now) c.send_within.result _ _ is c.send_within.ensures.means
