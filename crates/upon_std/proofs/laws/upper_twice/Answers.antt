use Rattle.upon_std.proofs.UpperLemmas.{upper-upper}
use Rattle.upon_std.proofs.laws.upper_twice.Goals as goal

pub returns : goal.returns
returns c = upper-upper
