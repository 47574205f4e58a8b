use Rattle.std.proofs.Common.{inl, inr}
use Rattle.upon_tool_pages.proofs.Statuses.{no_success}
use Rattle.upon_tool_pages.proofs.many.show_build.Goals as goal

pub returns-in-Ok-clause-well : goal.returns-in-Ok-clause-well
returns-in-Ok-clause-well g c = inl (c.in-Ok.done.items, c.in-Ok.ensures.done, c.show_done.ensures.well)

pub returns-in-Err-clause-well : goal.returns-in-Err-clause-well
returns-in-Err-clause-well g c = inr (λ zero. no_success _ c.report_build.ensures.failed zero, c.in-Err.ensures.unwritten)
