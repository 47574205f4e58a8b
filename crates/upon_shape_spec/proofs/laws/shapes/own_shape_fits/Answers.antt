use Rattle.upon_shape_spec.proofs.Joins.{own_fits}
use Rattle.upon_shape_spec.proofs.NarrowestShape.{narrowest}
use Rattle.upon_shape_spec.proofs.laws.shapes.own_shape_fits.Goals as goal

pub returns-clause-fits : goal.returns-clause-fits
returns-clause-fits c = own_fits

pub returns-clause-narrowest : goal.returns-clause-narrowest
returns-clause-narrowest c = λ s v. narrowest v s
