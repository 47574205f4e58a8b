use Rattle.upon_meaning_spec.proofs.NumberedDepth.{numbered_depth}
use Rattle.upon_meaning_spec.proofs.laws.numbered_depth.Goals as goal

pub returns : goal.returns
returns c given = numbered_depth
