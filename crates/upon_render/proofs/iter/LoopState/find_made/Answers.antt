use Rattle.std.proofs.Common.{arith}
use Rattle.std.proofs.lemmas.Grind.{common_steps}
use Rattle.upon_render.proofs.iter.LoopState.find_made.Goals as goal

-- the search finds no proof of this, and takes long
pub returns-then-eq : goal.returns-then-eq
returns-then-eq = grind (arith, common_steps)
