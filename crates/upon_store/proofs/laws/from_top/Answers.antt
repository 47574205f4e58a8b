use Rattle.upon_store.proofs.Leads.{top_path}
use Rattle.upon_store.proofs.laws.from_top.Goals as goal

pub returns : goal.returns
returns c = top_path
