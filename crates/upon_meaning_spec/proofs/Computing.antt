-- A line `unfolding computing` lets examples compute: the digits of numbers.
use Rattle.std.specs.Fmt.{digits}

unfoldable pub computing : Unit {0}
unfolding digits
computing = tt
