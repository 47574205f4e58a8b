use Rattle.upon_shape_spec.proofs.IncludesFit.{within_alone}
use Rattle.upon_shape_spec.proofs.laws.templates.accepted_within_a_depth.Goals as goal

pub returns : goal.returns
returns g c = λ declared table n calls left t name s v q keeps accepted le fits. within_alone declared table calls keeps n left le t name s v q accepted fits
