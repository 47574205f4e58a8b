use Rattle.std.proofs.Common.{refl}
use Rattle.upon_users.proofs.kept.numbered.Goals as goal

pub returns : goal.returns
returns g c number k is below = c.rendered.ensures.laws.numbered _ number k refl is below
