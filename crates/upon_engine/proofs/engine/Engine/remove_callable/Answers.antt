use Rattle.std.proofs.Common.{refl}
use Rattle.upon_engine.proofs.Updates.{callables_after}
use Rattle.upon_engine.proofs.engine.Engine.remove_callable.Goals as goal

pub returns-clause-engine : goal.returns-clause-engine
returns-clause-engine g c = callables_after _ _ c.args.self.now c.remove-old.new.self _ _ _ refl c.remove-old.ensures.updates
