use Rattle.std.proofs.Common.{◌≡◌, take}
use Rattle.upon_shape_check.specs.Scope.{names_view}
use Rattle.upon_shape_check.proofs.scope.Scope.try_clone.Given as goal

abbrev pub invariant-loop-name : goal.invariant-loop-name
invariant-loop-name l = names_view l.names.items ≡ names_view (take l.name-index l.self.names.items)
