use Rattle.upon_shape_spec.proofs.IncludesFit.{planned_alone}
use Rattle.upon_shape_spec.proofs.laws.templates.accepted_by_a_plan.Goals as goal

pub returns : goal.returns
returns g c = λ declared table plan calls left t name s v q keeps closed accepted fits. planned_alone declared table plan calls keeps closed left t name s v q accepted fits
