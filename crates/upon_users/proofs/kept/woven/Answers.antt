use Rattle.upon_users.proofs.KeptTexts.{woven_text}
use Rattle.upon_users.proofs.kept.woven.Goals as goal

pub returns : goal.returns
returns g c = woven_text _ _ c.rendered.result c.rendered.ensures.means c.rendered.ensures.laws
