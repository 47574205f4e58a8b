use Rattle.std.proofs.Common.{arith}
use Rattle.std.proofs.lemmas.Grind.{common_steps}
use Rattle.upon_near.proofs.nearest.nearest.Goals as goal

-- the search finds no proof of these, and takes long
pub loop-other-preserved : goal.loop-other-preserved
loop-other-preserved = grind (arith, common_steps)

pub returns : goal.returns
returns = grind (arith, common_steps)
