use Rattle.upon_types.proofs.value.clone.put.Goals as goal

pub returns : goal.returns
returns c = (c.in_ok-clone.field-0, c.in_ok-clone.ensures.cases, c.in_ok-insert.ensures.entries)
