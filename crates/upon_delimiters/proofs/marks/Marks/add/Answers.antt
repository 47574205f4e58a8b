use Rattle.std.proofs.Common.{arith}
use Rattle.std.proofs.lemmas.Grind.{common_steps}
use Rattle.upon_delimiters.proofs.marks.Marks.add.Goals as goal

-- the search finds no proof of these, and takes long
pub returns-in-Some-clause-kept : goal.returns-in-Some-clause-kept
returns-in-Some-clause-kept = grind (arith, common_steps)

pub returns-in-None-clause-kept : goal.returns-in-None-clause-kept
returns-in-None-clause-kept = grind (arith, common_steps)
