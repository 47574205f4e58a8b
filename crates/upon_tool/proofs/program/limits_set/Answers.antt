use Rattle.std.proofs.Common.{sym, ◌∙◌}
use Rattle.upon_tool.proofs.ManyPages.{limits_there, no_limits}
use Rattle.upon_tool.proofs.program.limits_set.Goals as goal

pub returns-then-is_limited : goal.returns-then-is_limited
returns-then-is_limited c = limits_there _ _ c.limits_of-limits.ensures (sym c.is_limited.ensures ∙ c.if-is_limited.true)

pub returns-else-is_limited : goal.returns-else-is_limited
returns-else-is_limited c = no_limits _ _ c.limits_of-limits.ensures (sym c.is_limited.ensures ∙ c.if-is_limited.false)
