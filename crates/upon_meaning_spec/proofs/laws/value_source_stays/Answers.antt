use Rattle.upon_meaning_spec.specs.Alone.{includes_left}
use Rattle.upon_meaning_spec.proofs.UnaskedMeaning.{values_stay}
use Rattle.upon_meaning_spec.proofs.laws.value_source_stays.Goals as goal

pub returns : goal.returns
returns c given = record { within = values_stay; of_depth = λ rendering t name v s. values_stay rendering.calls rendering.resolve (includes_left rendering.limit) t name v s }
