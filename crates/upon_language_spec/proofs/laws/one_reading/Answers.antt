use Rattle.upon_language_spec.proofs.OneCut.Cut.{one_cut_to}
use Rattle.upon_language_spec.proofs.laws.one_reading.Goals as goal

pub returns : goal.returns
returns c = λ delimiters s ls ks mode other p texts a b. one_cut_to delimiters s mode other p ls ks texts a b
