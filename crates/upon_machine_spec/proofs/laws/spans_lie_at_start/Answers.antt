use Rattle.upon_machine_spec.proofs.FaultsLie.Steps.{start_lies}
use Rattle.upon_machine_spec.proofs.laws.spans_lie_at_start.Goals as goal

pub returns : goal.returns
returns g c = start_lies
