use Rattle.upon_needs.proofs.Begun.{needed_surely}
use Rattle.upon_needs.proofs.needs.is_name_needed.Goals as goal

pub returns-then-sure : goal.returns-then-sure
returns-then-sure c = needed_surely _ (c.requires c.if-sure.true)
