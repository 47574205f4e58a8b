use Rattle.std.proofs.Common.{arith}
use Rattle.std.proofs.lemmas.Grind.{common_steps}
use Rattle.upon_delimiters.proofs.search.Searcher.raw_end.Goals as goal

-- the search finds no proof of this, and takes long
pub returns-in-None-clause-next : goal.returns-in-None-clause-next
returns-in-None-clause-next = grind (arith, common_steps)
