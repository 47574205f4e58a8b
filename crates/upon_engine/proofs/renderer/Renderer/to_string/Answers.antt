use Rattle.upon_engine.proofs.Laws.{kept}
use Rattle.upon_engine.proofs.renderer.Renderer.to_string.Goals as goal

pub returns-in-Ok-clause-laws : goal.returns-in-Ok-clause-laws
returns-in-Ok-clause-laws g c = kept _

pub returns-in-Err-clause-laws : goal.returns-in-Err-clause-laws
returns-in-Err-clause-laws g c = kept _
