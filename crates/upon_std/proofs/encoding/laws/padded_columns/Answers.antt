use Rattle.upon_std.proofs.EncodingLemmas.Blanks.{padded_left-columns, padded_right-columns, centered-columns}
use Rattle.upon_std.proofs.encoding.laws.padded_columns.Goals as goal

pub returns : goal.returns
returns c = record { left = padded_left-columns; right = padded_right-columns; center = centered-columns }
