use Rattle.upon_shape_check.proofs.Stepping.{pushed}
use Rattle.upon_shape_check.proofs.known.Known.push.Goals as goal

pub returns : goal.returns
returns c = pushed _ _ _ _ _ c.in_ok-push.ensures.items
