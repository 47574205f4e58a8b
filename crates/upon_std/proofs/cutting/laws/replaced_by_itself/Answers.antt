use Rattle.upon_std.proofs.CuttingLemmas.LawLemmas.{replaced-same}
use Rattle.upon_std.proofs.cutting.laws.replaced_by_itself.Goals as goal

pub returns : goal.returns
returns c = replaced-same
