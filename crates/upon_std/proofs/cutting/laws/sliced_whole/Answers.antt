use Rattle.upon_std.proofs.CuttingLemmas.LawLemmas.{sliced-all}
use Rattle.upon_std.proofs.cutting.laws.sliced_whole.Goals as goal

pub returns : goal.returns
returns c = sliced-all
