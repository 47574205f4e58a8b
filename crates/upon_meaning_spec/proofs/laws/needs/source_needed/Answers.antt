use Rattle.upon_meaning_spec.proofs.WhatIsNeeded.Templates.{needed_of_source}
use Rattle.upon_meaning_spec.proofs.laws.needs.source_needed.Goals as goal

pub returns : goal.returns
returns g c = λ calls ask table limit template name s agree. needed_of_source calls ask table template name limit s agree
