use Rattle.upon_std.proofs.OrderingLemmas.LawLemmas.{sorted_permutes, sorted_ascends, sorted_stays}
use Rattle.upon_std.proofs.ordering.laws.sorted.Goals as goal

pub returns : goal.returns
returns c = record { permutation = sorted_permutes; ascends = sorted_ascends; stable = sorted_stays }
