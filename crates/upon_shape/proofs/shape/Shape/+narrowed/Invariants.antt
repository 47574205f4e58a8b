use Rattle.std.proofs.Common.{length}
use Rattle.upon_shape.proofs.shape.Shape.+narrowed.Given as goal

abbrev pub decreases-narrowed : goal.decreases-narrowed
decreases-narrowed l = length l.path.now
