use Rattle.upon_machine_spec.proofs.FollowsTree.Once.{once}
use Rattle.upon_machine_spec.proofs.laws.runs_once.Goals as goal

pub returns : goal.returns
returns g c = once
