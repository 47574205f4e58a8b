use Rattle.upon_quote.proofs.JsonLemmas.{json_content_quoted}
use Rattle.upon_quote.proofs.Values.{json_bytes, json_value}
use Rattle.upon_quote.proofs.laws.json_again.Goals as goal

pub returns : goal.returns
returns c = record { text = json_content_quoted; bytes = json_bytes; value = json_value }
