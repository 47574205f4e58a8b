use Rattle.upon_std.proofs.CuttingLemmas.LawLemmas.{length-concatenated}
use Rattle.upon_std.proofs.cutting.laws.length_of_both.Goals as goal

pub returns : goal.returns
returns c = length-concatenated
