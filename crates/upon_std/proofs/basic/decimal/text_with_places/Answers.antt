use Rattle.upon_std.proofs.BasicLemmas.Powers.{power_positive}
use Rattle.upon_std.proofs.basic.decimal.text_with_places.Goals as goal

pub nonzero_div-size : goal.nonzero_div-size
nonzero_div-size c = rw c.pow.ensures (power_positive _)
