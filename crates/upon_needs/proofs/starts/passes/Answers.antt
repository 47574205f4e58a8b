use Rattle.std.proofs.Common.{arith}
use Rattle.std.proofs.lemmas.Grind.{common_steps}
use Rattle.upon_needs.proofs.starts.passes.Goals as goal

-- the search finds no proof of these, and takes long
pub loop-at-preserved : goal.loop-at-preserved
loop-at-preserved = grind (arith, common_steps)

pub returns : goal.returns
returns = grind (arith, common_steps)
