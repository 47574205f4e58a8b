use Rattle.std.proofs.Common.{arith}
use Rattle.std.proofs.lemmas.Grind.{common_steps}
use Rattle.upon_render.proofs.iter.map_items.Goals as goal

-- the search finds no proof of these, and takes long
pub returns-in-Map-clause-fits : goal.returns-in-Map-clause-fits
returns-in-Map-clause-fits = grind (arith, common_steps)

pub returns-in-Ok-clause-fits : goal.returns-in-Ok-clause-fits
returns-in-Ok-clause-fits = grind (arith, common_steps)
