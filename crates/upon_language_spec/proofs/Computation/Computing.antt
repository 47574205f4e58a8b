-- A line `unfolding computing` lets examples compute: characters and their bytes, the tables of names, and trimming.
use Rattle.std.proofs.Math.Utf8.{encode}
use Rattle.std.specs.Str.{chars, trim_start, trim_end}
use Rattle.unicode_ident.proofs.Computing.{unicode_ident}

unfoldable pub computing : Unit {0}
unfolding unicode_ident chars encode trim_start trim_end
computing = tt
