use Rattle.upon_language_spec.proofs.SpansLieIn.Cut.{cut_lies_in}
use Rattle.upon_language_spec.proofs.laws.cut_lies_in.Goals as goal

pub returns : goal.returns
returns c = cut_lies_in
