use Rattle.upon_meaning_spec.proofs.MapLiterals.{literal_rises}
use Rattle.upon_meaning_spec.proofs.laws.maps.map_literal_rises.Goals as goal

pub returns : goal.returns
returns g c = λ calls items span env q o e. literal_rises calls env items span q o e
