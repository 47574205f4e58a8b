use Rattle.upon_language_spec.proofs.Totality.OneAnswer.{one_answer}
use Rattle.upon_language_spec.proofs.laws.one_answer.Goals as goal

pub returns : goal.returns
returns c = one_answer
