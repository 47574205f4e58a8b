use Rattle.upon.proofs.RenderingLaws.{plain_of}
use Rattle.upon.proofs.laws_of_rendering.plain_text.Goals as goal

pub returns : goal.returns
returns g c = plain_of _ _ c.args.engine.now
