use Rattle.upon_store.proofs.Leads.{down_path}
use Rattle.upon_store.proofs.laws.from_folder.Goals as goal

pub returns : goal.returns
returns c = down_path
