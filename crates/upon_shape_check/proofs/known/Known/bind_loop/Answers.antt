use Rattle.upon_shape_check.proofs.Stepping.{bound_loop}
use Rattle.upon_shape_check.proofs.known.Known.bind_loop.Goals as goal

pub returns : goal.returns
returns c = bound_loop _ _ _ _ _ _ _ _ c.in_ok-count.ensures.scope c.in_ok-bind.ensures.ok c.in_ok-count.ensures.count c.in_ok-push.ensures.items
