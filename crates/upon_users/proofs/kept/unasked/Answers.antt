use Rattle.upon_users.proofs.kept.unasked.Goals as goal

pub returns : goal.returns
returns g c v is = c.to_string.ensures.laws.source_stays v is
