use Rattle.std.proofs.Common.{arith}
use Rattle.std.proofs.lemmas.Grind.{common_steps}
use Rattle.upon_std.proofs.cutting.parts.slice.Goals as goal

-- the search finds no proof of these, and takes long
pub returns-in_default-clause-says : goal.returns-in_default-clause-says
returns-in_default-clause-says = grind (arith, common_steps)

pub returns-in_err-items-clause-says : goal.returns-in_err-items-clause-says
returns-in_err-items-clause-says = grind (arith, common_steps)

pub returns-in_err-from-clause-says : goal.returns-in_err-from-clause-says
returns-in_err-from-clause-says = grind (arith, common_steps)

pub returns-in_err-from-clause-blames_given : goal.returns-in_err-from-clause-blames_given
returns-in_err-from-clause-blames_given = grind (arith, common_steps)

pub returns-in_err-to-clause-says : goal.returns-in_err-to-clause-says
returns-in_err-to-clause-says = grind (arith, common_steps)

pub returns-in_err-to-clause-blames_given : goal.returns-in_err-to-clause-blames_given
returns-in_err-to-clause-blames_given = grind (arith, common_steps)
