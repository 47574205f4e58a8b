use Rattle.std.proofs.Common.{arith}
use Rattle.std.proofs.lemmas.Grind.{common_steps}
use Rattle.upon_std.proofs.ordering.spelling.spell_text.Goals as goal

-- the search finds no proof of these, and takes long
pub loop-byte-preserved : goal.loop-byte-preserved
loop-byte-preserved = grind (arith, common_steps)

pub returns : goal.returns
returns = grind (arith, common_steps)
