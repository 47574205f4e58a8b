use Rattle.std.proofs.Common.{length}
use Rattle.upon_shape.proofs.shape.Shape.+walk.Given as goal

abbrev pub decreases-walk : goal.decreases-walk
decreases-walk l = length l.path.now
