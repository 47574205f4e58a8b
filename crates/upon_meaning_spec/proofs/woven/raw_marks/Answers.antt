use Rattle.upon_meaning_spec.proofs.RawMarks.{raw_marks}
use Rattle.upon_meaning_spec.proofs.woven.raw_marks.Goals as goal

pub returns : goal.returns
returns g c = λ p. raw_marks p
