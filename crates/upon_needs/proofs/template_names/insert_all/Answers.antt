use Rattle.upon_needs.proofs.SetsOfNames.{insert_step}
use Rattle.upon_needs.proofs.template_names.insert_all.Goals as goal

pub loop-name-preserved : goal.loop-name-preserved
loop-name-preserved c = λ name. insert_step _ _ _ _ _ name _ c.in_ok-insert.ensures.updates c.in-Some.ensures.steps.0 (c.loop-name.invariant name)
