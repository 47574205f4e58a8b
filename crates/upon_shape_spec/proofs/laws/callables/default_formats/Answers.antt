use Rattle.upon_shape_spec.proofs.ShownWell.{default_each}
use Rattle.upon_shape_spec.proofs.laws.callables.default_formats.Goals as goal

pub returns : goal.returns
returns c = default_each
