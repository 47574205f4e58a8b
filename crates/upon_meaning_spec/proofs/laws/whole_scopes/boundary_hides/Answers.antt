use Rattle.upon_meaning_spec.proofs.Scopes.InBody.{boundary}
use Rattle.upon_meaning_spec.proofs.laws.whole_scopes.boundary_hides.Goals as goal

pub returns : goal.returns
returns g c = boundary
