use Rattle.upon_machine_spec.proofs.FollowsTree.Templates.{simulates}
use Rattle.upon_machine_spec.proofs.laws.program_runs.Goals as goal

pub returns : goal.returns
returns g c = simulates
