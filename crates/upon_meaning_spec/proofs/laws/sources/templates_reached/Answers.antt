use Rattle.upon_meaning_spec.specs.Alone.{includes_left}
use Rattle.upon_meaning_spec.proofs.NamesRead.{templates_reached_from}
use Rattle.upon_meaning_spec.proofs.laws.sources.templates_reached.Goals as goal

pub returns : goal.returns
returns g c = λ calls table these those limit template name root s hands_on alike. templates_reached_from calls template name (includes_left limit) table these those root s hands_on alike
