use Rattle.upon_vm.proofs.Writes.{writes_alone}
use Rattle.upon_engine.proofs.Laws.{kept}
use Rattle.upon_engine.proofs.renderer.Renderer.to_output.Goals as goal

pub returns-clause-means : goal.returns-clause-means
returns-clause-means g c = writes_alone _ _ _ _ _ _ c.to_output_and_sources-result.result.0 c.to_output_and_sources-result.ensures.means

pub returns-clause-laws : goal.returns-clause-laws
returns-clause-laws g c = kept _
