use Rattle.std.proofs.Common.{arith}
use Rattle.std.proofs.lemmas.Grind.{common_steps}
use Rattle.upon_needs.proofs.PlacesLie.{includes_lie}
use Rattle.upon_needs.proofs.places.include_places.Goals as goal

-- the search finds no proof of these, and takes long
pub loop-instr-preserved : goal.loop-instr-preserved
loop-instr-preserved = grind (arith, common_steps)

pub returns-clause-includes : goal.returns-clause-includes
returns-clause-includes = grind (arith, common_steps)

pub returns-clause-lie : goal.returns-clause-lie
returns-clause-lie c = includes_lie c.args.template.now c.loop-instr.places.items (returns-clause-includes c)
