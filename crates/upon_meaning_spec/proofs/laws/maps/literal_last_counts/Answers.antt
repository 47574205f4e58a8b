use Rattle.upon_meaning_spec.proofs.MapOrder.{last_stands}
use Rattle.upon_meaning_spec.proofs.laws.maps.literal_last_counts.Goals as goal

pub returns : goal.returns
returns g c = λ calls items span env q o e. last_stands calls env items span q o e
