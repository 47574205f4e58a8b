use Rattle.upon_meaning_spec.proofs.Scopes.Hidden.{for_hides}
use Rattle.upon_meaning_spec.proofs.laws.whole_scopes.for_hides.Goals as goal

pub returns : goal.returns
returns g c = λ calls resolve left running names e body other name between outer env s binds unread. for_hides calls resolve left running between name outer env names e body other s binds unread
