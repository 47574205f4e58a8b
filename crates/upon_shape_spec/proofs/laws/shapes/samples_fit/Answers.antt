use Rattle.upon_shape_spec.proofs.Joins.{sample_fits}
use Rattle.upon_shape_spec.proofs.OpenedShapes.{opened_wider}
use Rattle.upon_shape_spec.proofs.laws.shapes.samples_fit.Goals as goal

pub returns-clause-fit : goal.returns-clause-fit
returns-clause-fit c = sample_fits

pub returns-clause-opened : goal.returns-clause-opened
returns-clause-opened c = opened_wider
