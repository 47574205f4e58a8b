use Rattle.upon_engine.proofs.InLimits.{more_steps_of, some_steps_of, steps_mean_of}
use Rattle.upon.proofs.laws_of_limits.steps_suffice.Goals as goal

pub returns-clause-some : goal.returns-clause-some
returns-clause-some g c = some_steps_of _ _ c.args.engine.now

pub returns-clause-greater : goal.returns-clause-greater
returns-clause-greater g c = more_steps_of _ _ c.args.engine.now

pub returns-clause-means : goal.returns-clause-means
returns-clause-means g c = steps_mean_of _ _ c.args.engine.now
