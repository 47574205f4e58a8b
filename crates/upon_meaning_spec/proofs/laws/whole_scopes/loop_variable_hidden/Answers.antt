use Rattle.upon_meaning_spec.proofs.Scopes.LoopUnseen.{loop_unseen}
use Rattle.upon_meaning_spec.proofs.laws.whole_scopes.loop_variable_hidden.Goals as goal

pub returns : goal.returns
returns g c = loop_unseen
