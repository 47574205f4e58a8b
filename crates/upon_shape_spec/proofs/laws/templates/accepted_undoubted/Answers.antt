use Rattle.upon_shape_spec.proofs.NoDoubts.{accepted_undoubted}
use Rattle.upon_shape_spec.proofs.laws.templates.accepted_undoubted.Goals as goal

pub returns : goal.returns
returns c = accepted_undoubted
