use Rattle.upon_meaning_spec.proofs.Scopes.InBody.{in_body}
use Rattle.upon_meaning_spec.proofs.laws.whole_scopes.body_finds.Goals as goal

pub returns : goal.returns
returns g c = in_body
