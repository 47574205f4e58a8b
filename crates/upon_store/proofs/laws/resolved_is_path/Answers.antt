use Rattle.upon_store.proofs.Leads.{resolved_path}
use Rattle.upon_store.proofs.laws.resolved_is_path.Goals as goal

pub returns : goal.returns
returns c = resolved_path
