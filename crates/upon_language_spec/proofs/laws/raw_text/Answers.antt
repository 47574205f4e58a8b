use Rattle.upon_language_spec.proofs.RawText.{raw_text}
use Rattle.upon_language_spec.proofs.laws.raw_text.Goals as goal

pub returns : goal.returns
returns c = raw_text
