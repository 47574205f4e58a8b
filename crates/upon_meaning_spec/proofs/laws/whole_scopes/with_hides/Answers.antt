use Rattle.std.proofs.Common.{refl}
use Rattle.upon_meaning_spec.proofs.Scopes.Hidden.{with_hides}
use Rattle.upon_meaning_spec.proofs.laws.whole_scopes.with_hides.Goals as goal

pub returns : goal.returns
returns g c = λ calls resolve left running e word body between outer env s unread. with_hides calls resolve left running between word.text outer env e word body s refl unread
