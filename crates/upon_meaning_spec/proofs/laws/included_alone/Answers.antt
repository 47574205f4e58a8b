use Rattle.upon_meaning_spec.proofs.IncludedAlone.{included_alone, included_of_depth}
use Rattle.upon_meaning_spec.proofs.laws.included_alone.Goals as goal

pub returns : goal.returns
returns c given = record { within = included_alone; of_depth = included_of_depth }
