use Rattle.upon_users.proofs.KeptTexts.{deeper}
use Rattle.upon_users.proofs.kept.deep_enough.Goals as goal

pub returns : goal.returns
returns g c depth le = deeper _ depth _ _ c.rendered.result c.rendered.ensures.means (c.rendered.ensures.laws.depths _ depth le)
