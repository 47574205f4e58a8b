-- What undoes a change of a scope.
use Rattle.std.specs.Prelude.{ℕ, zero, suc, List, [], ◌∷◌}
use Rattle.upon_shape_spec.specs.Scope as spec
use Rattle.upon_shape.specs.View.{shape_view}
use Rattle.upon_shape_check.specs.Scope.{bound_view}
use Rattle.upon_shape_check.specs.declared.undo.Undo.{Undo}
use Rattle.upon_shape_check.specs.declared.undo.Undo.TheVariants.{Nothing, Root, Name}

-- names, of which the one at this depth is bound to something else
abbrev pub bound_anew : ℕ → spec.BoundShape → List spec.NameShape → List spec.NameShape
bound_anew n bound [] = []
bound_anew zero bound (b ∷ bs) = spec.name_shape b.name bound ∷ bs
bound_anew (suc n) bound (b ∷ bs) = b ∷ bound_anew n bound bs

-- a scope before a change
abbrev pub undone : Undo → spec.Scope → spec.Scope
undone Nothing scope = scope
undone (Root shape) scope = record scope { root = shape_view shape }
undone (Name depth bound) scope = record scope { names = bound_anew depth (bound_view bound) scope.names }
