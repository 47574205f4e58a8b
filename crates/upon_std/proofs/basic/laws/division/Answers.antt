use Rattle.std.proofs.lemmas.Int.{quot-rem}
use Rattle.upon_std.proofs.basic.laws.division.Goals as goal

pub returns : goal.returns
returns c = quot-rem
