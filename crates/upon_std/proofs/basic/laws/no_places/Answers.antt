use Rattle.upon_std.proofs.BasicLemmas.LawLemmas.{decimal_text-zero}
use Rattle.upon_std.proofs.basic.laws.no_places.Goals as goal

pub returns : goal.returns
returns c = decimal_text-zero
