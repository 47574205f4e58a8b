use Rattle.std.proofs.Common.{arith}
use Rattle.std.proofs.lemmas.Grind.{common_steps}
use Rattle.upon_functions.proofs.two.owned.Fn2OVFunction.call.Goals as goal

-- the search finds no proof of these, and takes long
pub returns-in_default-clause-says : goal.returns-in_default-clause-says
returns-in_default-clause-says = grind (arith, common_steps)

pub returns-in_err-owned-clause-says : goal.returns-in_err-owned-clause-says
returns-in_err-owned-clause-says = grind (arith, common_steps)

pub returns-clause-says : goal.returns-clause-says
returns-clause-says = grind (arith, common_steps)
