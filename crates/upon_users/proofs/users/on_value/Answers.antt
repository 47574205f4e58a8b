use Rattle.upon_engine.specs.Answers.{AnswersText}
use Rattle.upon_engine.proofs.Renderings.{on_value}
use Rattle.upon_users.proofs.users.on_value.Goals as goal

pub returns : goal.returns
returns g c =
    let made = c.render_from.ensures in
    on_value _ _ (λ limit o. AnswersText limit o c.to_string.result) _ _ c.render_from.result _ _ _ _ _ made.engine made.templates made.template made.name made.limit made.value c.to_string.ensures.means
