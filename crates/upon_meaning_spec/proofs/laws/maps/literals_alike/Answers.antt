use Rattle.upon_meaning_spec.proofs.MapLiterals.{literals_same}
use Rattle.upon_meaning_spec.proofs.laws.maps.literals_alike.Goals as goal

pub returns : goal.returns
returns g c = literals_same
