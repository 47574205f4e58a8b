use Rattle.upon_shape_spec.proofs.PathsFit.{path_finds}
use Rattle.upon_shape_spec.proofs.laws.scopes.path_in_scope.Goals as goal

pub returns : goal.returns
returns g c = path_finds
