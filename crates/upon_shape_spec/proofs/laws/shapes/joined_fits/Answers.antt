use Rattle.upon_shape_spec.proofs.Joins.{first_fits, second_fits}
use Rattle.upon_shape_spec.proofs.LeastJoin.{wider_first, wider_second, least}
use Rattle.upon_shape_spec.proofs.laws.shapes.joined_fits.Goals as goal

pub returns-clause-of_first : goal.returns-clause-of_first
returns-clause-of_first c = first_fits

pub returns-clause-of_second : goal.returns-clause-of_second
returns-clause-of_second c = second_fits

pub returns-clause-as_wide : goal.returns-clause-as_wide
returns-clause-as_wide c = λ s t. (wider_first s t, wider_second s t)

pub returns-clause-narrowest : goal.returns-clause-narrowest
returns-clause-narrowest c = λ s t u. least u s t
