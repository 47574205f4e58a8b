use Rattle.upon_meaning_spec.proofs.WhatIsNeeded.Templates.{needed_names}
use Rattle.upon_meaning_spec.proofs.laws.needs.names_needed.Goals as goal

pub returns : goal.returns
returns g c = λ calls table limit template name these those s agree. needed_names calls table template name limit these those s agree
