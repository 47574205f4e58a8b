use Rattle.upon_language_spec.specs.Tags.{symbols_of}
use Rattle.upon_language_spec.proofs.Wanted.WantedAt.{wants}
use Rattle.upon_language_spec.proofs.Totality.FittingClears.{symbols_plain}
use Rattle.upon_language_spec.proofs.laws.parts_want.Goals as goal

pub returns : goal.returns
returns c = λ s ls parts_left word path e. wants (symbols_of s ls) parts_left word (symbols_plain s ls) path e
