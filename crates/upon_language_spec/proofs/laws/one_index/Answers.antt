use Rattle.upon_language_spec.proofs.OneTree.Literal.{one_index}
use Rattle.upon_language_spec.proofs.laws.one_index.Goals as goal

pub returns : goal.returns
returns c = one_index
