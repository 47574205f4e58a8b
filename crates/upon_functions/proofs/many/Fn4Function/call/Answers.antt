use Rattle.std.proofs.Common.{arith}
use Rattle.std.proofs.lemmas.Grind.{common_steps}
use Rattle.upon_functions.proofs.many.Fn4Function.call.Goals as goal

-- the search finds no proof of these, and takes long
pub returns-in_default-clause-says : goal.returns-in_default-clause-says
returns-in_default-clause-says = grind (arith, common_steps)

pub returns-in_err-first-clause-says : goal.returns-in_err-first-clause-says
returns-in_err-first-clause-says = grind (arith, common_steps)

pub returns-in_err-second-clause-says : goal.returns-in_err-second-clause-says
returns-in_err-second-clause-says = grind (arith, common_steps)

pub returns-in_err-third-clause-says : goal.returns-in_err-third-clause-says
returns-in_err-third-clause-says = grind (arith, common_steps)

pub returns-in_err-fourth-clause-says : goal.returns-in_err-fourth-clause-says
returns-in_err-fourth-clause-says = grind (arith, common_steps)

pub returns-clause-says : goal.returns-clause-says
returns-clause-says = grind (arith, common_steps)

pub returns-clause-blames_given : goal.returns-clause-blames_given
returns-clause-blames_given = grind (arith, common_steps)
