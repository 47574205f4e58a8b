use Rattle.std.proofs.Common.{arith}
use Rattle.std.proofs.lemmas.Grind.{common_steps}
use Rattle.upon_shape.proofs.shape.Shape.+narrowed.Goals as goal

-- the search finds no proof of these, and takes long
pub returns-in_default : goal.returns-in_default
returns-in_default = grind (arith, common_steps)

pub returns-in_ok-with_entry-in-Key : goal.returns-in_ok-with_entry-in-Key
returns-in_ok-with_entry-in-Key = grind (arith, common_steps)
