use Rattle.std.proofs.Common.{arith}
use Rattle.std.proofs.lemmas.Grind.{common_steps}
use Rattle.upon_render.proofs.items.Rest.next.Goals as goal

-- the search finds no proof of this, and takes long
pub returns-in_err-key-in-MapOwned-clause-items : goal.returns-in_err-key-in-MapOwned-clause-items
returns-in_err-key-in-MapOwned-clause-items = grind (arith, common_steps)
