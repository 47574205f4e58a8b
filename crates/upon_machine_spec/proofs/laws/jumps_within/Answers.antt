use Rattle.upon_machine_spec.proofs.JumpsWithin.{jumps_within}
use Rattle.upon_machine_spec.proofs.laws.jumps_within.Goals as goal

pub returns : goal.returns
returns c = jumps_within
