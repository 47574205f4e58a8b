use Rattle.upon_language_spec.proofs.RawText.{empty_text}
use Rattle.upon_language_spec.proofs.laws.empty_text.Goals as goal

pub returns : goal.returns
returns c = empty_text
