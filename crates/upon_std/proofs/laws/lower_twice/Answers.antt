use Rattle.upon_std.proofs.LowerLemmas.{lower-lower}
use Rattle.upon_std.proofs.laws.lower_twice.Goals as goal

pub returns : goal.returns
returns c = lower-lower
