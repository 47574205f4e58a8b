use Rattle.upon_meaning_spec.proofs.UnaskedMeaning.{replaced}
use Rattle.upon_meaning_spec.proofs.laws.value_source_replaced.Goals as goal

pub returns : goal.returns
returns c given = replaced
