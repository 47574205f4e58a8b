use Rattle.std.proofs.Common.{arith}
use Rattle.std.proofs.lemmas.Grind.{common_steps}
use Rattle.upon_render.proofs.iter.LoopState.lookup_loop.Goals as goal

-- the search finds no proof of these, and takes long
pub lookup_state-requires-clause-spans : goal.lookup_state-requires-clause-spans
lookup_state-requires-clause-spans = grind (arith, common_steps)

pub returns-in-len1-up-Some : goal.returns-in-len1-up-Some
returns-in-len1-up-Some = grind (arith, common_steps)
