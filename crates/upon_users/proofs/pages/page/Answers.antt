use Rattle.upon_types.specs.View.{view}
use Rattle.upon_users.proofs.Answered.{markup_answered}
use Rattle.upon_users.proofs.pages.page.Goals as goal

pub returns : goal.returns
returns g c tree table has it all = markup_answered _ _ c.args.engine.now table c.args.source.now tree (view c.args.value.now) c.render_text.result (c.render_text.ensures.means tree has) it all
