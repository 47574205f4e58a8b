use Rattle.upon_shape_check.proofs.Scoping.{bound_more}
use Rattle.upon_shape_check.proofs.scope.Scope.bind.Goals as goal

pub returns-clause-ok : goal.returns-clause-ok
returns-clause-ok c = bound_more _ _ _ _ c.in_ok-push.ensures.items
