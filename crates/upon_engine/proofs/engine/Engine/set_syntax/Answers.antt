use Rattle.upon_engine.proofs.Updates.{syntax_set}
use Rattle.upon_engine.proofs.engine.Engine.set_syntax.Goals as goal

pub returns : goal.returns
returns g c = syntax_set _ _ (record c.args.self.now { searcher = c.with_syntax.result }) _ c.with_syntax.ensures
