use Rattle.upon_tool_io.proofs.Checks.{check-asked}
use Rattle.upon_tool_io.proofs.arguments.fit_or_check.Goals as goal

pub returns-in-Ok : goal.returns-in-Ok
returns-in-Ok g c = λ shown.
    rw c.check_on.ensures (check-asked (g.W.Words.said c.args.words.now) c.in_ok-check.check c.in-Ok.contexts shown c.in_ok-check.ensures c.in-Ok.ensures)
