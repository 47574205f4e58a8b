use Rattle.std.proofs.Common.{IsTrue}
use Rattle.upon_meaning_spec.proofs.PiecesOf.{only_written}
use Rattle.upon_meaning_spec.proofs.woven.written_only.Goals as goal

pub returns : goal.returns
returns g c = λ P. only_written (λ text. IsTrue (P text))
