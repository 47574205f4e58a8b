use Rattle.upon_shape_spec.proofs.ExpressionsFit.{signatures_kept}
use Rattle.upon_shape_spec.proofs.laws.callables.signatures_are_kept.Goals as goal

pub returns : goal.returns
returns c = signatures_kept
