use Rattle.std.proofs.Common.{refl}
use Rattle.upon_users.proofs.KeptTexts.{of_equal}
use Rattle.upon_users.proofs.kept.with_others.Goals as goal

pub returns : goal.returns
returns g c others agree = of_equal _ _ _ c.rendered.result c.rendered.ensures.means (c.rendered.ensures.laws.reached _ others refl agree)
