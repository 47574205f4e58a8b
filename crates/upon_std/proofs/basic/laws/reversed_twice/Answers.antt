use Rattle.upon_std.proofs.BasicLemmas.Items.{reversed-reversed}
use Rattle.upon_std.proofs.basic.laws.reversed_twice.Goals as goal

pub returns : goal.returns
returns c = reversed-reversed
