use Rattle.upon_meaning_spec.specs.Alone.{includes_left}
use Rattle.upon_meaning_spec.proofs.UnaskedMeaning.{unasked}
use Rattle.upon_meaning_spec.proofs.laws.value_source_unasked.Goals as goal

pub returns : goal.returns
returns c given = record { within = unasked; of_depth = λ rendering ask t name v s. unasked rendering.calls ask rendering.resolve (includes_left rendering.limit) t name v s }
