use Rattle.upon_shape_spec.proofs.NarrowedFit.{narrowed_fits}
use Rattle.upon_shape_spec.proofs.laws.shapes.narrowed_fits.Goals as goal

pub returns : goal.returns
returns c = narrowed_fits
