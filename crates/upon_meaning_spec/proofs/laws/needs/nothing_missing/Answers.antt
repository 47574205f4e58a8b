use Rattle.upon_meaning_spec.proofs.WhatIsNeeded.NothingMissing.{same_with}
use Rattle.upon_meaning_spec.proofs.laws.needs.nothing_missing.Goals as goal

pub returns : goal.returns
returns g c = λ calls table resolve limit template name root s none answers. same_with calls table resolve template name limit root s none answers
