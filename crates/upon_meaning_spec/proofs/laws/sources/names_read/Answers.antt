use Rattle.upon_meaning_spec.specs.Alone.{includes_left}
use Rattle.upon_meaning_spec.proofs.NamesRead.{names_read_from}
use Rattle.upon_meaning_spec.proofs.laws.sources.names_read.Goals as goal

pub returns : goal.returns
returns g c = λ calls table resolve limit template name these those s hands_on agree. names_read_from calls template name (includes_left limit) table resolve these those s hands_on agree
