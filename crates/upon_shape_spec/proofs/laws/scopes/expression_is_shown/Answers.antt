use Rattle.upon_shape_spec.proofs.ShownWell.{emission_well}
use Rattle.upon_shape_spec.proofs.laws.scopes.expression_is_shown.Goals as goal

pub returns : goal.returns
returns g c = λ declared calls scope env e q keeps fits shown. emission_well calls declared keeps scope env fits e q shown
