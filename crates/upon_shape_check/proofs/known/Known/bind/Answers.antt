use Rattle.std.proofs.Common.{[], ◌∷◌, refl}
use Rattle.upon_shape_spec.specs.Scope.{name_shape}
use Rattle.upon_shape_check.specs.Scope.{bound_view}
use Rattle.upon_shape_check.proofs.Stepping.{bound}
use Rattle.upon_shape_check.proofs.known.Known.bind.Goals as goal

pub returns : goal.returns
returns c = bound _ (name_shape c.args.name.now (bound_view c.args.bound) ∷ []) _ _ _ _ 1 c.in_ok-bind.ensures.ok c.in_ok-push.ensures.items refl
