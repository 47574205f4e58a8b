use Rattle.std.proofs.Common.{arith}
use Rattle.std.proofs.lemmas.Grind.{common_steps}
use Rattle.upon_std.proofs.cutting.parts.items_with.Goals as goal

-- the search finds no proof of these, and takes long
pub returns-in_default-clause-says : goal.returns-in_default-clause-says
returns-in_default-clause-says = grind (arith, common_steps)

pub returns-in_err-items-clause-says : goal.returns-in_err-items-clause-says
returns-in_err-items-clause-says = grind (arith, common_steps)

pub returns-in_err-key-clause-says : goal.returns-in_err-key-clause-says
returns-in_err-key-clause-says = grind (arith, common_steps)
