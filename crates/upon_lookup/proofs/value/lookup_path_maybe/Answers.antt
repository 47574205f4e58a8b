use Rattle.std.proofs.Common.{arith}
use Rattle.std.proofs.lemmas.Grind.{common_steps}
use Rattle.upon_lookup.proofs.value.lookup_path_maybe.Goals as goal

-- the search finds no proof of these, and takes long
pub lookup_in_context-requires : goal.lookup_in_context-requires
lookup_in_context-requires = grind (arith, common_steps)

pub returns-in-len1-up-clause-answer : goal.returns-in-len1-up-clause-answer
returns-in-len1-up-clause-answer = grind (arith, common_steps)

pub returns-in-len1-up-clause-lent : goal.returns-in-len1-up-clause-lent
returns-in-len1-up-clause-lent = grind (arith, common_steps)
