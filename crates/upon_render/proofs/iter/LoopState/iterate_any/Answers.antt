use Rattle.std.proofs.Common.{arith}
use Rattle.std.proofs.lemmas.Grind.{common_steps}
use Rattle.upon_render.proofs.iter.LoopState.iterate_any.Goals as goal

-- the search finds no proof of this, and takes long
pub turns_to_any-requires : goal.turns_to_any-requires
turns_to_any-requires = grind (arith, common_steps)
