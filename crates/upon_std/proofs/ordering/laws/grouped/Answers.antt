use Rattle.upon_std.proofs.OrderingLemmas.Groups.{groups_permute}
use Rattle.upon_std.proofs.ordering.laws.grouped.Goals as goal

pub returns : goal.returns
returns c = groups_permute
