use Rattle.std.proofs.Common.{◌≡◌, true}
use Rattle.upon_before_spec.proofs.MeaningKept.{meaning_kept}
use Rattle.upon_before_spec.proofs.laws.meaning_kept.Goals as goal

pub returns : goal.returns
returns c given = λ calls before now names left t name root s alike only. meaning_kept calls before now (λ n. names n ≡ true) alike left t name root s only
