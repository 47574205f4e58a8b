use Rattle.upon_std.proofs.EncodingLemmas.JsonAgain.{text_value-json_text}
use Rattle.upon_std.proofs.encoding.laws.json_again.Goals as goal

pub returns : goal.returns
returns c = text_value-json_text
