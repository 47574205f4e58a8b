use Rattle.upon_meaning_spec.proofs.FaultsStated.Ends.{end_stated}
use Rattle.upon_meaning_spec.proofs.laws.faults.faults_are_stated.Goals as goal

pub returns : goal.returns
returns g c = end_stated
