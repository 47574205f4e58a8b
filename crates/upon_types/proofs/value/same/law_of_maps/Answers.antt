use Rattle.upon_types.proofs.Bindings.{one_map}
use Rattle.upon_types.proofs.value.same.law_of_maps.Goals as goal

pub returns : goal.returns
returns c = one_map
