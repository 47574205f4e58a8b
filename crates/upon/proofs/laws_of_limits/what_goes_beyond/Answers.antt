use Rattle.upon_engine.proofs.InLimits.{stopped_answers, stopped_sends}
use Rattle.upon.proofs.laws_of_limits.what_goes_beyond.Goals as goal

pub returns-clause-answered : goal.returns-clause-answered
returns-clause-answered g c limits limit n name source tree v result = stopped_answers _ _ c.args.engine.now name source tree v result limits limit n

pub returns-clause-sent : goal.returns-clause-sent
returns-clause-sent g c limits limit n name source tree v result old new = stopped_sends _ _ c.args.engine.now name source tree v result limits limit n old new
