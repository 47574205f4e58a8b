use Rattle.upon_language_spec.specs.DefaultDelimiters.{default_delimiters}
use Rattle.upon_language_spec.proofs.Computation.DefaultTexts.{default_texts, default_utf8}
use Rattle.upon_language_spec.proofs.Totality.OneAnswer.{one_answer}
use Rattle.upon_delimiters.proofs.laws.default_one_answer.Goals as goal

pub returns : goal.returns
returns c = λ s text. one_answer default_delimiters s default_texts default_utf8 text
