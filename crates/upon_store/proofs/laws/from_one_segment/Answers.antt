use Rattle.upon_store.proofs.Leads.{one_segment}
use Rattle.upon_store.proofs.laws.from_one_segment.Goals as goal

pub returns : goal.returns
returns c = one_segment
