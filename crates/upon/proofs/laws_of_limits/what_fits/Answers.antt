use Rattle.upon_engine.proofs.InLimits.{fitting_answers, fitting_sends}
use Rattle.upon.proofs.laws_of_limits.what_fits.Goals as goal

pub returns-clause-answered : goal.returns-clause-answered
returns-clause-answered g c limits name source tree v result = fitting_answers _ _ c.args.engine.now name source tree v result limits

pub returns-clause-sent : goal.returns-clause-sent
returns-clause-sent g c limits name source tree v result old new = fitting_sends _ _ c.args.engine.now name source tree v result limits old new
