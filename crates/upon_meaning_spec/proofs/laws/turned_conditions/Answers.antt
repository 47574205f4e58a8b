use Rattle.upon_meaning_spec.specs.Alone.{includes_left}
use Rattle.upon_meaning_spec.proofs.AlikeRenderings.Templates.{alone_alike}
use Rattle.upon_meaning_spec.proofs.laws.turned_conditions.Goals as goal

pub returns : goal.returns
returns c given = record { within = alone_alike; of_depth = λ rendering t u name root s h. alone_alike rendering.calls rendering.resolve (includes_left rendering.limit) t u name root s h }
