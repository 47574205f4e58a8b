use Rattle.upon_meaning_spec.proofs.NumberedDepth.{numbered_from}
use Rattle.upon_meaning_spec.proofs.laws.sources.numbered_depth.Goals as goal

pub returns : goal.returns
returns g c = numbered_from
