use Rattle.upon_engine.specs.Answers.{AnswersText}
use Rattle.upon_engine.specs.KeepsLaws.{KeepsLaws}
use Rattle.upon_engine.proofs.Renderings.{on_value}
use Rattle.upon_users.proofs.OnCalls.{on_call}
use Rattle.upon_users.proofs.kept.rendered.Goals as goal

pub returns-clause-means : goal.returns-clause-means
returns-clause-means g c =
    let made = c.render_from.ensures in
    on_value _ _ (λ limit o. AnswersText limit o c.to_string.result) _ _ c.render_from.result _ _ _ _ _ made.engine made.templates made.template made.name made.limit made.value c.to_string.ensures.means

pub returns-clause-laws : goal.returns-clause-laws
returns-clause-laws g c =
    let made = c.render_from.ensures in
    on_call _ _ KeepsLaws c.render_from.result _ _ _ _ _ made.engine made.templates made.template made.name made.limit made.value c.to_string.ensures.laws
