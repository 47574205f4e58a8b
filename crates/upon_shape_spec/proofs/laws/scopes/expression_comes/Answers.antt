use Rattle.upon_shape_spec.proofs.ExpressionsFit.{expression_comes}
use Rattle.upon_shape_spec.proofs.laws.scopes.expression_comes.Goals as goal

pub returns : goal.returns
returns g c = λ declared calls scope env e q keeps fits. expression_comes calls declared keeps scope env fits e q
