use Rattle.upon_shape_spec.proofs.Order.{scope_itself}
use Rattle.upon_shape_spec.proofs.ScopesFit.{scope_wider_fits}
use Rattle.upon_shape_spec.proofs.laws.scopes.wider_scope_fits.Goals as goal

pub returns-clause-fits : goal.returns-clause-fits
returns-clause-fits c = scope_wider_fits

pub returns-clause-itself : goal.returns-clause-itself
returns-clause-itself c = scope_itself
