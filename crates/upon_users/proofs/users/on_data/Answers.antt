use Rattle.upon_engine.specs.Answers.{AnswersText}
use Rattle.upon_engine.specs.Sources.{base_in}
use Rattle.upon_engine.proofs.Renderings.{on_base}
use Rattle.upon_users.proofs.users.on_data.Goals as goal

pub returns : goal.returns
returns g c =
    let made = c.render.ensures in
    let text = on_base _ _ (λ limit o. AnswersText limit o c.to_string.result) _ _ _ c.render.result _ _ _ _ made.engine made.templates made.template made.name made.limit c.to_string.ensures.means in
    (base_in c.render.result.values, made.context, text)
