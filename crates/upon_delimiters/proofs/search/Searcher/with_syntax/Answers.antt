use Rattle.std.proofs.Common.{arith}
use Rattle.std.proofs.lemmas.Grind.{common_steps}
use Rattle.upon_delimiters.proofs.search.Searcher.with_syntax.Goals as goal

-- the search finds no proof of this, and takes long
pub invariant_of-result : goal.invariant_of-result
invariant_of-result = grind (arith, common_steps)
