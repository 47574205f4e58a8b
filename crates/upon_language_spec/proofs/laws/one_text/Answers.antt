use Rattle.upon_language_spec.proofs.OneTree.Literal.{one_text}
use Rattle.upon_language_spec.proofs.laws.one_text.Goals as goal

pub returns : goal.returns
returns c = one_text
