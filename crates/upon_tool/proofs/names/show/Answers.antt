use Rattle.upon_tool.proofs.names.show.Goals as goal

pub returns-in-Ok-send-clause-needed : goal.returns-in-Ok-send-clause-needed
returns-in-Ok-send-clause-needed g c = λ t is zero. (c.in-Ok.needs, c.in-Ok.ensures.needed t is, c.in-Ok-send.ensures)

pub returns-in-Ok-send-clause-absent : goal.returns-in-Ok-send-clause-absent
returns-in-Ok-send-clause-absent g c = λ none. absurd (c.in-Ok.ensures.absent none)
