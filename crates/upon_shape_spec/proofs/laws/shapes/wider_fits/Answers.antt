use Rattle.upon_shape_spec.proofs.Order.{itself, over}
use Rattle.upon_shape_spec.proofs.Widths.{wider_fits}
use Rattle.upon_shape_spec.proofs.laws.shapes.wider_fits.Goals as goal

pub returns-clause-fits : goal.returns-clause-fits
returns-clause-fits c = wider_fits

pub returns-clause-itself : goal.returns-clause-itself
returns-clause-itself c = itself

pub returns-clause-over : goal.returns-clause-over
returns-clause-over c = over
