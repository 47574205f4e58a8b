use Rattle.std.proofs.Common.{arith}
use Rattle.std.proofs.lemmas.Grind.{common_steps}
use Rattle.upon_lexer.proofs.literal.number.Goals as goal

-- the search finds no proof of this, and takes long
pub returns-in_err-value-clause-err : goal.returns-in_err-value-clause-err
returns-in_err-value-clause-err = grind (arith, common_steps)
