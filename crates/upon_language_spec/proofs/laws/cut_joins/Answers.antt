use Rattle.upon_language_spec.proofs.SpansLieIn.Cut.{joined_parts}
use Rattle.upon_language_spec.proofs.laws.cut_joins.Goals as goal

pub returns : goal.returns
returns c = joined_parts
