use Rattle.upon_quote.proofs.YamlLemmas.{yaml_visible}
use Rattle.upon_quote.proofs.laws.yaml_on_one_line.Goals as goal

pub returns : goal.returns
returns c = yaml_visible
