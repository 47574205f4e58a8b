use Rattle.upon_shape_spec.proofs.NarrowedFit.{true_fits}
use Rattle.upon_shape_spec.proofs.laws.scopes.true_scope_fits.Goals as goal

pub returns : goal.returns
returns g c = true_fits
