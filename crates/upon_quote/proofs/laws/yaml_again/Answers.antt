use Rattle.upon_quote.proofs.YamlLemmas.{yaml_content_quoted}
use Rattle.upon_quote.proofs.Values.{yaml_bytes, yaml_value}
use Rattle.upon_quote.proofs.laws.yaml_again.Goals as goal

pub returns : goal.returns
returns c = record { text = yaml_content_quoted; bytes = yaml_bytes; value = yaml_value }
