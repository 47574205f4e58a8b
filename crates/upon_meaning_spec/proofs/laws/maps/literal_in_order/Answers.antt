use Rattle.upon_meaning_spec.proofs.MapLiterals.{literal_order}
use Rattle.upon_meaning_spec.proofs.laws.maps.literal_in_order.Goals as goal

pub returns : goal.returns
returns g c = λ calls items span env q o key value both at e. literal_order calls env items span q o key value both at e
