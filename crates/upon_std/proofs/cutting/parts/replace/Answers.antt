use Rattle.std.proofs.Common.{arith}
use Rattle.std.proofs.lemmas.Grind.{common_steps}
use Rattle.upon_std.proofs.cutting.parts.replace.Goals as goal

-- the search finds no proof of these, and takes long
pub returns-in_default-clause-says : goal.returns-in_default-clause-says
returns-in_default-clause-says = grind (arith, common_steps)

pub returns-in_err-text-clause-says : goal.returns-in_err-text-clause-says
returns-in_err-text-clause-says = grind (arith, common_steps)

pub returns-in_err-from-clause-says : goal.returns-in_err-from-clause-says
returns-in_err-from-clause-says = grind (arith, common_steps)

pub returns-in_err-to-clause-says : goal.returns-in_err-to-clause-says
returns-in_err-to-clause-says = grind (arith, common_steps)

pub returns-then-is_empty-clause-says : goal.returns-then-is_empty-clause-says
returns-then-is_empty-clause-says = grind (arith, common_steps)
