use Rattle.upon_store.proofs.Leads.{too_far_up}
use Rattle.upon_store.proofs.laws.stays_below_top.Goals as goal

pub returns : goal.returns
returns c = too_far_up
