-- What a plan of a program denotes.
use Rattle.std.specs.Prelude.{List, map}
use Rattle.upon_shape_spec.specs.Accepted as spec
use Rattle.upon_shape_check.specs.Scope.{scope_view}
use Rattle.upon_shape_check.specs.declared.plan.Plan.{Plan}
use Rattle.upon_shape_check.specs.declared.plan.Planned.{Planned}

-- a template's name with its scope
abbrev pub planned_view : Planned → spec.Planned
planned_view p = record { name = p.name.now; scope = scope_view p.scope }

-- a plan
abbrev pub plan_view : Plan → List spec.Planned
plan_view plan = map planned_view plan.entries.items
