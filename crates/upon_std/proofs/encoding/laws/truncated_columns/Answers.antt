use Rattle.upon_std.proofs.EncodingLemmas.Fronts.{truncated-within, truncated-whole, front-longest, truncated-chars}
use Rattle.upon_std.proofs.encoding.laws.truncated_columns.Goals as goal

pub returns : goal.returns
returns c = record { at_most = truncated-within; whole = truncated-whole; longest = front-longest; characters = truncated-chars }
