use Rattle.std.proofs.Common.{arith}
use Rattle.std.proofs.lemmas.Grind.{common_steps}
use Rattle.upon_lookup.proofs.source.members.Goals as goal

-- the search finds no proof of these, and takes long
pub loop-one-preserved : goal.loop-one-preserved
loop-one-preserved = grind (arith, common_steps)

pub returns : goal.returns
returns = grind (arith, common_steps)
