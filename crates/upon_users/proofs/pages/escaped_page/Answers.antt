use Rattle.upon_users.proofs.Answered.{calls_escape}
use Rattle.upon_users.proofs.pages.escaped_page.Goals as goal

pub returns : goal.returns
returns g c tree table has it only = c.page.ensures tree table has it (calls_escape _ _ c.args.engine.now table c.args.source.now tree only)
