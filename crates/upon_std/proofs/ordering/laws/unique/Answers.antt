use Rattle.upon_std.proofs.OrderingLemmas.LawLemmas.{distinct_differ, distinct_keeps}
use Rattle.upon_std.proofs.ordering.laws.unique.Goals as goal

pub returns : goal.returns
returns c = record { differ = distinct_differ; kept = distinct_keeps }
