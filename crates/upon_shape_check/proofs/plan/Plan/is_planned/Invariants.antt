use Rattle.std.proofs.Common.{◌≡◌, drop, map}
use Rattle.upon_shape_spec.specs.Accepted as spec
use Rattle.upon_shape_check.specs.Plan.{plan_view, planned_view}
use Rattle.upon_shape_check.specs.Scope.{scope_view}
use Rattle.upon_shape_check.proofs.plan.Plan.is_planned.Given as goal

abbrev pub invariant-loop-planned : goal.invariant-loop-planned
invariant-loop-planned l = spec.is_planned (plan_view l.self) l.name (scope_view l.scope) ≡ spec.is_planned (map planned_view (drop l.planned-index l.self.entries.items)) l.name (scope_view l.scope)
