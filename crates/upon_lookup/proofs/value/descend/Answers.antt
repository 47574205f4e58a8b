use Rattle.std.proofs.Common.{arith}
use Rattle.std.proofs.lemmas.Grind.{common_steps}
use Rattle.upon_lookup.proofs.value.descend.Goals as goal

-- the search finds no proof of these, and takes long
pub lookup-requires : goal.lookup-requires
lookup-requires = grind (arith, common_steps)

pub returns-in_err-found : goal.returns-in_err-found
returns-in_err-found = grind (arith, common_steps)

pub returns-in-None : goal.returns-in-None
returns-in-None = grind (arith, common_steps)

pub loop-member-preserved : goal.loop-member-preserved
loop-member-preserved = grind (arith, common_steps)

pub returns : goal.returns
returns = grind (arith, common_steps)
