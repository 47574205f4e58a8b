use Rattle.std.proofs.Common.{refl}
use Rattle.upon_shape_check.proofs.steps.ends_with.Goals as goal

pub returns : goal.returns
returns c = λ number d inc. (refl, c.leave.ensures)
