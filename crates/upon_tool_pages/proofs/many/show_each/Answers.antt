use Rattle.std.proofs.Common.{inl, inr}
use Rattle.upon_tool_pages.proofs.Statuses.{one_no_success}
use Rattle.upon_tool_pages.proofs.many.show_each.Goals as goal

pub returns-in-Ok-clause-well : goal.returns-in-Ok-clause-well
returns-in-Ok-clause-well g c = inl (c.in-Ok.done.items, c.in-Ok.ensures.done, c.show_done.ensures.well)

pub returns-in-Err-clause-well : goal.returns-in-Err-clause-well
returns-in-Err-clause-well g c = inr (λ zero. one_no_success _ c.report_each.ensures zero, c.in-Err.ensures.unwritten)
