use Rattle.upon_meaning_spec.proofs.Scopes.InBody.{in_with}
use Rattle.upon_meaning_spec.proofs.laws.whole_scopes.with_body_finds.Goals as goal

pub returns : goal.returns
returns g c = in_with
