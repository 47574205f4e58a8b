use Rattle.upon_meaning_spec.proofs.NamesRead.{names_read}
use Rattle.upon_meaning_spec.proofs.laws.names.names_read.Goals as goal

pub returns : goal.returns
returns g c = λ calls table limit template name these those s agree. names_read calls template name limit table these those s agree
