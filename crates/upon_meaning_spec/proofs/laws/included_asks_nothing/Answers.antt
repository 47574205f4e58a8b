use Rattle.std.proofs.Common.{ap, ◌∙◌, Some}
use Rattle.upon_meaning_spec.proofs.IncludedAlone.{included_alone}
use Rattle.upon_meaning_spec.proofs.UnaskedMeaning.{values_stay}
use Rattle.upon_meaning_spec.proofs.laws.included_asks_nothing.Goals as goal

pub returns : goal.returns
returns c given calls resolve running left word e env s v t next finds =
    ap (λ o. o.next.values) (included_alone calls resolve running left word e env s v t next finds)
    ∙ values_stay calls resolve left t (Some word.text) v next
