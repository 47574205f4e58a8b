use Rattle.std.proofs.Common.{arith}
use Rattle.std.proofs.lemmas.Grind.{common_steps}
use Rattle.upon_render.proofs.iter.lookup_key.Goals as goal

-- the search finds no proof of these, and takes long
pub caused-requires : goal.caused-requires
caused-requires = grind (arith, common_steps)

pub returns-in_ok-from_text-in-empty : goal.returns-in_ok-from_text-in-empty
returns-in_ok-from_text-in-empty = grind (arith, common_steps)

pub returns-in-len1-up : goal.returns-in-len1-up
returns-in-len1-up = grind (arith, common_steps)
