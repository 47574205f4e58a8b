use Rattle.upon_language_spec.proofs.OneCut.Cut.{one_cut}
use Rattle.upon_language_spec.proofs.laws.one_cut.Goals as goal

pub returns : goal.returns
returns c = one_cut
