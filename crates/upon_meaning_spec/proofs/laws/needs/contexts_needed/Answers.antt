use Rattle.upon_meaning_spec.proofs.WhatIsNeeded.Templates.{needed_of_contexts}
use Rattle.upon_meaning_spec.proofs.laws.needs.contexts_needed.Goals as goal

pub returns : goal.returns
returns g c = λ calls table limit template name this that s agree. needed_of_contexts calls table template name limit this that s agree
