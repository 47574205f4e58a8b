use Rattle.upon_language_spec.proofs.GivenTokens.Shown.{given_is_shown}
use Rattle.upon_language_spec.proofs.laws.given_is_shown.Goals as goal

pub returns : goal.returns
returns c = given_is_shown
