use Rattle.upon_std.proofs.CuttingLemmas.LawLemmas.{joined-split}
use Rattle.upon_std.proofs.cutting.laws.split_and_joined.Goals as goal

pub returns : goal.returns
returns c = joined-split
