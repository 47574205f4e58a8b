-- What a scope of a program denotes, and what undoes a change of it.
use Rattle.std.specs.Prelude.{ℕ, ◌+◌, List, [], ◌∷◌, Option, Some, None, option_map, bytes_eq, if◌then◌else◌}
use Rattle.upon_shape_spec.specs.Scope as spec
use Rattle.upon_shape.specs.View.{shape_view}
use Rattle.upon_shape_check.specs.Rows.{on_top}
use Rattle.upon_shape_check.specs.declared.scope.BoundShape.{BoundShape}
use Rattle.upon_shape_check.specs.declared.scope.BoundShape.TheVariants.{Value, LoopKey, Loop}
use Rattle.upon_shape_check.specs.declared.scope.NameShape.{NameShape}
use Rattle.upon_shape_check.specs.declared.scope.Scope.{Scope}

-- what is known of what a name is bound to
abbrev pub bound_view : BoundShape → spec.BoundShape
bound_view (Value shape) = spec.value_of (shape_view shape)
bound_view LoopKey = spec.loop_key
bound_view Loop = spec.a_loop

-- a name
abbrev pub name_view : NameShape → spec.NameShape
name_view n = spec.name_shape n.name.now (bound_view n.bound)

-- names, of which the last is innermost
abbrev pub names_view : List NameShape → List spec.NameShape
names_view names = on_top name_view names []

-- a scope
abbrev pub scope_view : Scope → spec.Scope
scope_view scope = record { names = names_view scope.names.items; root = shape_view scope.root }

-- how many names are innermore than the first of this name, if there is one
abbrev pub name_depth : List ℕ → List spec.NameShape → Option ℕ
name_depth name [] = None
name_depth name (b ∷ bs) = if bytes_eq name b.name then Some 0 else option_map (λ n. n + 1) (name_depth name bs)
