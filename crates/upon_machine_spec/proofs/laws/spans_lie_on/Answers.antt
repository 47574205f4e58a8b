use Rattle.upon_machine_spec.proofs.FaultsLie.Steps.{step_lies}
use Rattle.upon_machine_spec.proofs.laws.spans_lie_on.Goals as goal

pub returns : goal.returns
returns g c = λ calls resolve root s others lies. step_lies calls resolve root s others lies
