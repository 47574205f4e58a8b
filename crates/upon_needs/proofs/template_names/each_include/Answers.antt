use Rattle.std.proofs.Common.{arith}
use Rattle.std.proofs.lemmas.Grind.{common_steps}
use Rattle.upon_needs.proofs.template_names.each_include.Goals as goal

-- the search finds no proof of these, and takes long
pub loop-instr-preserved : goal.loop-instr-preserved
loop-instr-preserved = grind (arith, common_steps)

pub returns : goal.returns
returns = grind (arith, common_steps)
