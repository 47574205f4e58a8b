use Rattle.upon_meaning_spec.proofs.FaultsStated.Ends.{end_lies}
use Rattle.upon_meaning_spec.proofs.laws.faults.faults_lie.Goals as goal

pub returns : goal.returns
returns g c = end_lies
