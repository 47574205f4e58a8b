use Rattle.std.proofs.Common.{arith}
use Rattle.upon_tree.proofs.Weights.{measure-smaller_hand, measure-smaller_both}
use Rattle.upon_tree.proofs.ast.taking_apart.take_apart.Goals as goal

pub loop-next-smaller-in-Ok : goal.loop-next-smaller-in-Ok
loop-next-smaller-in-Ok c = measure-smaller_hand _ _ _ _ c.in-Ok.ensures.same c.in-Ok.ensures.inside

pub loop-next-smaller : goal.loop-next-smaller
loop-next-smaller c = measure-smaller_both _ _ _ _ (omega (arith, c.in-Err.ensures.left, c.in-Some.ensures))
