use Rattle.upon_shape_spec.proofs.PathsFit.{walk_finds}
use Rattle.upon_shape_spec.proofs.laws.shapes.path_finds.Goals as goal

pub returns : goal.returns
returns c = walk_finds
