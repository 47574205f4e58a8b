use Rattle.std.proofs.Common.{refl}
use Rattle.upon_engine.proofs.Updates.{templates_after}
use Rattle.upon_engine.proofs.engine.Engine.remove_template.Goals as goal

pub returns-clause-engine : goal.returns-clause-engine
returns-clause-engine g c = templates_after _ _ c.args.self.now c.remove.new.self _ _ _ _ refl c.remove.ensures.updates refl
