use Rattle.upon_language_spec.proofs.OneTree.Literal.{one_integer}
use Rattle.upon_language_spec.proofs.laws.one_integer.Goals as goal

pub returns : goal.returns
returns c = one_integer
