-- What is known besides where a path was tested and found true.
use Rattle.std.specs.Prelude.{ℕ, List, [], ◌∷◌, Bool, true, false, Option, Some, None, bytes_eq, if◌then◌else◌}
use Rattle.upon_types.specs.Expression.{Expression, base, filtered, Base, var, literal, list, mapping, paren, call}
use Rattle.upon_types.specs.Path.{Access, by_index, by_key, Member}
use Rattle.upon_shape_spec.specs.Scope.{BoundShape, value_of, loop_key, a_loop, NameShape, Scope, name_shape, bound_shape_of}
use Rattle.upon_shape_spec.specs.Shape.{Shape, any_shape, one_of, Maps, no_map, maps_of, key_then, map_of, at_key, keys_without}

-- a map in which the key is, with something of a shape made of what is known of it
abbrev pub map_with : List ℕ → (Shape → Shape) → Shape → Maps → Shape
map_with key narrowed s no_map = s
map_with key narrowed s (maps_of ks) = map_of (key_then key true (narrowed (at_key key ks).shape) (keys_without key ks))

-- on at a key; of an index nothing more is known
abbrev pub narrowed_at : Access → (Shape → Shape) → Shape → Shape
narrowed_at (by_index n span) narrowed s = s
narrowed_at (by_key word) narrowed any_shape = any_shape
narrowed_at (by_key word) narrowed (one_of p l m) = map_with word.text narrowed (one_of p l m) m

-- what is true is not none
abbrev pub not_none : Shape → Shape
not_none any_shape = any_shape
not_none (one_of p l m) = one_of (record p { none = false }) l m

-- a value in which the path found what is true: its keys are there
abbrev pub narrowed : List Member → Shape → Shape
narrowed [] s = not_none s
narrowed (member ∷ members) s = narrowed_at member.access (narrowed members) s

-- what a name is bound to; of a loop's key and state nothing more is known
abbrev pub narrowed_bound : List Member → BoundShape → BoundShape
narrowed_bound members (value_of s) = value_of (narrowed members s)
narrowed_bound members loop_key = loop_key
narrowed_bound members a_loop = a_loop

-- the first binding of a name
abbrev pub narrowed_names : List ℕ → List Member → List NameShape → List NameShape
narrowed_names name members [] = []
narrowed_names name members (b ∷ bs) =
    if bytes_eq name b.name then name_shape b.name (narrowed_bound members b.bound) ∷ bs
    else (b ∷ narrowed_names name members bs)

-- what is bound to the name that is a path's first member, narrowed at the first binding of it
abbrev pub narrowed_bindings : Access → List Member → List NameShape → List NameShape
narrowed_bindings (by_index n span) members bs = bs
narrowed_bindings (by_key word) members bs = narrowed_names word.text members bs

-- the context, if the first member is not bound
abbrev pub narrowed_root : Option BoundShape → List Member → Shape → Shape
narrowed_root None members s = narrowed members s
narrowed_root (Some b) members s = s

-- where this path is true
abbrev pub narrowed_scope : Member → List Member → Scope → Scope
narrowed_scope first rest scope = record {
  names = narrowed_bindings first.access rest scope.names;
  root = narrowed_root (bound_shape_of first.access scope.names) (first ∷ rest) scope.root;
}

abbrev mutual
  -- where this expression is true: more is known of a path, and of nothing else
  pub true_scope : Expression → Scope → Scope
  true_scope (base b) scope = base_true_scope b scope
  true_scope (filtered receiver name args span) scope = scope

  -- where this expression without a filter is true: more is known of a path, and of nothing else
  pub base_true_scope : Base → Scope → Scope
  base_true_scope (var first rest) scope = narrowed_scope first rest scope
  base_true_scope (literal v span) scope = scope
  base_true_scope (list bases span) scope = scope
  base_true_scope (mapping items span) scope = scope
  base_true_scope (paren e span) scope = true_scope e scope
  base_true_scope (call name args span) scope = scope

-- where a test of the expression came out so
abbrev pub tested_scope : Bool → Expression → Scope → Scope
tested_scope true e scope = true_scope e scope
tested_scope false e scope = scope
