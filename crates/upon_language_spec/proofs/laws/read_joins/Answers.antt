use Rattle.upon_language_spec.proofs.SpansLieIn.Cut.{joined_so_far}
use Rattle.upon_language_spec.proofs.laws.read_joins.Goals as goal

pub returns : goal.returns
returns c = joined_so_far
