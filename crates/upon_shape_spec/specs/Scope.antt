-- Scopes: what is known of each name where a part of a template runs.
use Rattle.std.specs.Prelude.{ℕ, List, [], ◌∷◌, ◌++◌, Bool, true, false, ◌&&◌, Option, Some, None, codes, bytes_eq, if◌then◌else◌}
use Rattle.upon_types.specs.declared.types.ast.path.AccessOp.{AccessOp}
use Rattle.upon_types.specs.declared.types.ast.path.AccessOp.TheVariants.{Direct, Optional}
use Rattle.upon_types.specs.Path.{Access, by_index, by_key, Member}
use Rattle.upon_lookup.specs.Environment.{Bound, plain, key_text, loop_state, Binding, Root, context, value_source, nothing, Environment, first_bound}
use Rattle.upon_lookup.specs.Lookup.{state_map}
use Rattle.upon_shape_spec.specs.Fits.{Fits}
use Rattle.upon_shape_spec.specs.Join.{shape_of}
use Rattle.upon_shape_spec.specs.Paths.{walk_shape}
use Rattle.upon_shape_spec.specs.Shape.{Shape, none_shape, truth_shape, integer_shape, text_shape}
use Rattle.upon_shape_spec.specs.Wider.{wider}

-- what is known of what a name is bound to: a value of a shape, a loop's key, or a loop's state
pub data BoundShape : Type 0 where
  value_of : Shape → BoundShape
  loop_key : BoundShape
  a_loop : BoundShape

-- a name, and what is known of what is bound to it
pub record NameShape : Type 0 where
  pub name : List ℕ
  pub bound : BoundShape

-- what is known of the names that are bound, innermost first, and of the context under them
pub record Scope : Type 0 where
  pub names : List NameShape
  pub root : Shape

-- a name with what is known of it
abbrev pub name_shape : List ℕ → BoundShape → NameShape
name_shape name bound = record { name = name; bound = bound }

-- a context alone
abbrev pub scope_over : Shape → Scope
scope_over s = record { names = []; root = s }

-- names more, the first of them innermost
abbrev pub with_names : List NameShape → Scope → Scope
with_names names scope = record scope { names = names ++ scope.names }

-- what is known of what is bound fits it
abbrev pub BoundFits : BoundShape → Bound → Type 0
BoundFits (value_of s) (plain v) = Fits s v
BoundFits loop_key (key_text text) = Unit {0}
BoundFits a_loop (loop_state index count) = Unit {0}
BoundFits _ _ = ⊥

-- what is known of the first binding of a name
abbrev pub first_bound_shape : List ℕ → List NameShape → Option BoundShape
first_bound_shape name [] = None
first_bound_shape name (b ∷ bs) = if bytes_eq name b.name then Some b.bound else first_bound_shape name bs

-- a name is bound in neither, or in both, to what fits
abbrev pub BothFit : Option BoundShape → Option Bound → Type 0
BothFit None None = Unit {0}
BothFit None (Some c) = ⊥
BothFit (Some b) None = ⊥
BothFit (Some b) (Some c) = BoundFits b c

-- each name is bound in neither, or in both, to what fits
abbrev pub NamesFit : List NameShape → List Binding → Type 0
NamesFit bs cs = (name : List ℕ) → BothFit (first_bound_shape name bs) (first_bound name cs)

-- the context fits
abbrev pub RootFits : Shape → Root → Type 0
RootFits s (context v) = Fits s v
RootFits s value_source = ⊥
RootFits s nothing = ⊥

-- an environment of which the scope says what is known
abbrev pub ScopeFits : Scope → Environment → Type 0
ScopeFits scope env = NamesFit scope.names env.bindings × RootFits scope.root env.root

-- what is known of what is bound to a path's first member; an index is never bound
abbrev pub bound_shape_of : Access → List NameShape → Option BoundShape
bound_shape_of (by_index n span) bs = None
bound_shape_of (by_key word) bs = first_bound_shape word.text bs

-- what else a loop's state is asked for
abbrev pub no_state_shape : AccessOp → Option Shape
no_state_shape Direct = None
no_state_shape Optional = Some none_shape

-- a member of a loop's state
abbrev pub state_shape : AccessOp → Access → Option Shape
state_shape op (by_index n span) = None
state_shape op (by_key word) =
    if bytes_eq word.text (codes "index") then Some integer_shape else
    (if bytes_eq word.text (codes "first") then Some truth_shape else
    (if bytes_eq word.text (codes "last") then Some truth_shape else no_state_shape op))

-- what is found after a name
abbrev pub bound_walk_shape : BoundShape → List Member → Option Shape
bound_walk_shape (value_of s) members = walk_shape members s
bound_walk_shape loop_key [] = Some text_shape
bound_walk_shape loop_key (member ∷ members) = None
bound_walk_shape a_loop [] = Some (shape_of (state_map 0 1))
bound_walk_shape a_loop (member ∷ []) = state_shape member.op member.access
bound_walk_shape a_loop (member ∷ next ∷ members) = None

-- what is found after a name that is bound, or else in the context
abbrev pub bound_or_root_shape : Option BoundShape → Shape → Member → List Member → Option Shape
bound_or_root_shape (Some b) root first rest = bound_walk_shape b rest
bound_or_root_shape None root first rest = walk_shape (first ∷ rest) root

-- the shape of what a path finds
abbrev pub path_shape : Scope → Member → List Member → Option Shape
path_shape scope first rest = bound_or_root_shape (bound_shape_of first.access scope.names) scope.root first rest

-- what a name is bound to has a shape that is at least as wide
abbrev pub bound_wider : BoundShape → BoundShape → Bool
bound_wider (value_of s) (value_of t) = wider s t
bound_wider loop_key loop_key = true
bound_wider a_loop a_loop = true
bound_wider _ _ = false

-- a name is bound in neither, or in both, in the first at least as widely
abbrev pub both_wider : Option BoundShape → Option BoundShape → Bool
both_wider None None = true
both_wider None (Some c) = false
both_wider (Some b) None = false
both_wider (Some b) (Some c) = bound_wider b c

-- each of these names is bound in neither, or in both, in the first at least as widely
abbrev pub names_wider : List NameShape → List NameShape → List NameShape → Bool
names_wider [] bs cs = true
names_wider (a ∷ as') bs cs =
    both_wider (first_bound_shape a.name bs) (first_bound_shape a.name cs) && names_wider as' bs cs

-- a scope that is at least as wide as another: of each name that either has, and of the context
abbrev pub scope_wider : Scope → Scope → Bool
scope_wider wide scope =
    wider wide.root scope.root
    && (names_wider wide.names wide.names scope.names && names_wider scope.names wide.names scope.names)
