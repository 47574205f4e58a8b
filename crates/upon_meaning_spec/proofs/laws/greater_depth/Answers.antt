use Rattle.upon_meaning_spec.proofs.DeeperMeaning.{greater_depth}
use Rattle.upon_meaning_spec.proofs.laws.greater_depth.Goals as goal

pub returns : goal.returns
returns c given = greater_depth
