use Rattle.upon.proofs.RenderingLaws.{agree_of}
use Rattle.upon.proofs.laws_of_rendering.text_is_sent.Goals as goal

pub returns : goal.returns
returns g c = agree_of _ _ c.args.engine.now
