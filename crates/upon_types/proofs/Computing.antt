-- A line `unfolding computing` lets examples compute: the columns of texts, and the digits of numbers.
use Rattle.std.specs.Fmt.{digits}
use Rattle.unicode_width.proofs.Computing.{unicode_width}

unfoldable pub computing : Unit {0}
unfolding digits unicode_width
computing = tt
