use Rattle.upon_engine.proofs.InLimits.{greater_answers, theorem_answers}
use Rattle.upon.proofs.laws_of_limits.greater_limits.Goals as goal

pub returns-clause-greater : goal.returns-clause-greater
returns-clause-greater g c one other name source tree v result le = greater_answers _ _ c.args.engine.now name source tree v result one other le

pub returns-clause-theorem : goal.returns-clause-theorem
returns-clause-theorem g c limits name source tree v result = theorem_answers _ _ c.args.engine.now name source tree v result limits
