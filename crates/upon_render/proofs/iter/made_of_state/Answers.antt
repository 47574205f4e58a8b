use Rattle.std.proofs.Common.{arith}
use Rattle.std.proofs.lemmas.Grind.{common_steps}
use Rattle.upon_render.proofs.iter.made_of_state.Goals as goal

-- the search finds no proof of these, and takes long
pub returns-in-index : goal.returns-in-index
returns-in-index = grind (arith, common_steps)

pub returns-in-first : goal.returns-in-first
returns-in-first = grind (arith, common_steps)

pub returns-in-last : goal.returns-in-last
returns-in-last = grind (arith, common_steps)
