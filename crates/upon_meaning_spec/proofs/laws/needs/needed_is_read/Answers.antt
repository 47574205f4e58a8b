use Rattle.upon_meaning_spec.proofs.WhatIsNeeded.LessThanRead.{needed_is_read}
use Rattle.upon_meaning_spec.proofs.laws.needs.needed_is_read.Goals as goal

pub returns : goal.returns
returns c = λ table tree name needs. needed_is_read table name tree needs
