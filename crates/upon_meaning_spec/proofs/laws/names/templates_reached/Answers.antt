use Rattle.upon_meaning_spec.proofs.NamesRead.{templates_reached}
use Rattle.upon_meaning_spec.proofs.laws.names.templates_reached.Goals as goal

pub returns : goal.returns
returns g c = λ calls these those limit template name root s agree. templates_reached calls template name limit these those root s agree
