use Rattle.std.proofs.Common.{refl}
use Rattle.upon_lookup.specs.Environment.{binding}
use Rattle.upon_meaning_spec.proofs.LoopNames.{innermost_answers}
use Rattle.upon_meaning_spec.proofs.laws.scopes.variable_answers.Goals as goal

pub returns : goal.returns
returns g c = λ ask inside name bound env first rest q is none. innermost_answers ask name inside (binding name bound) env refl none first rest q is
