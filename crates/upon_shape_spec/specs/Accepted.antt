-- Templates that are accepted on a scope: nothing in them fails where the scope says what is known.
use Rattle.std.specs.Prelude.{ℕ, zero, suc, List, [], ◌∷◌, Bool, true, false, not, ◌&&◌, ◌||◌, Option, Some, None, IsTrue, bytes_eq, codes, if◌then◌else◌}
use Rattle.upon_types.specs.Expression.{Expression}
use Rattle.upon_types.specs.Path.{LoopVars, item, key_value}
use Rattle.upon_types.specs.BlockKinds.{Opening, if_tag, for_tag, with_tag, opened_kind, may_have_else}
use Rattle.upon_types.specs.Tree.{Statement, raw, inline_expr, include, block, Statements, no_statements, statement_then, Else, no_else, otherwise}
use Rattle.upon_meaning_spec.specs.Engine.{Template, Table}
use Rattle.upon_shape_spec.specs.Declared.{Declared}
use Rattle.upon_shape_spec.specs.ExpressionShapes.{expression_shape, is_shown}
use Rattle.upon_shape_spec.specs.Join.{join_shapes}
use Rattle.upon_shape_spec.specs.Narrowed.{tested_scope}
use Rattle.upon_shape_spec.specs.Paths.{takes_plain, takes_lists, takes_maps}
use Rattle.upon_shape_spec.specs.Scope.{value_of, loop_key, a_loop, NameShape, Scope, name_shape, scope_over, with_names, scope_wider}
use Rattle.upon_shape_spec.specs.Shape.{Shape, any_shape, one_of, Lists, no_list, lists_of, Maps, no_map, maps_of, Keys, other_keys, key_then, never}

-- there is something, and this holds of it
abbrev pub OnSome : {A : Type 0} → Option A → (A → Type 0) → Type 0
OnSome None P = ⊥
OnSome (Some a) P = P a

-- the shape of an item of a list
abbrev pub item_shape : Lists → Shape
item_shape no_list = never
item_shape (lists_of s) = s

-- the shape of what any key has
abbrev pub keys_joined : Keys → Shape
keys_joined (other_keys s) = s
keys_joined (key_then k required s ks) = join_shapes s (keys_joined ks)

-- the shape of what a key of a map has
abbrev pub value_shape : Maps → Shape
value_shape no_map = never
value_shape (maps_of ks) = keys_joined ks

-- the names that a loop gives: one over what can only be a list, two over what can only be a map
abbrev pub loop_names : LoopVars → Shape → Option (List NameShape)
loop_names names any_shape = None
loop_names (item name) (one_of p l m) =
    if takes_plain p || takes_maps m then None else Some (name_shape name.text (value_of (item_shape l)) ∷ [])
loop_names (key_value key value both) (one_of p l m) =
    if takes_plain p || takes_lists l then None
    else Some (name_shape key.text loop_key ∷ name_shape value.text (value_of (value_shape m)) ∷ [])

-- a loop's state, ahead of what the item gives
abbrev pub iteration_names : List NameShape → List NameShape
iteration_names names = name_shape (codes "loop") a_loop ∷ names

-- What is known in the branches of a block: what its body's turns bind, over a value of this shape, if they are sure to
-- be found; the scope of the body, with what they bind; and the scope of the other branch.
pub record Branches : Type 0 where
  pub names : Shape → Option (List NameShape)
  pub body : List NameShape → Scope
  pub other : Scope

-- the branches of a block, by its kind, its expression and a scope: those of an `if` see what its test found
abbrev pub branches : Opening → Expression → Scope → Branches
branches (if_tag negated) e scope = record {
  names = λ s. Some [];
  body = λ bs. tested_scope (not negated) e scope;
  other = tested_scope negated e scope;
}
branches (for_tag names) e scope =
    record { names = loop_names names; body = λ bs. with_names (iteration_names bs) scope; other = scope }
branches (with_tag word) e scope = record {
  names = λ s. Some (name_shape word.text (value_of s) ∷ []);
  body = λ bs. with_names bs scope;
  other = scope;
}

-- where it is known which includes, on which scopes, do not fail
module _ (declared : Declared) (Included : List ℕ → Scope → Type 0) where
  abbrev mutual
    -- nothing in a statement fails where the scope fits
    pub StatementAccepted : Scope → Statement → Type 0
    StatementAccepted scope (raw span) = Unit {0}
    StatementAccepted scope (inline_expr e span) = IsTrue (is_shown declared scope e)
    StatementAccepted scope (include word None) = Included word.text scope
    StatementAccepted scope (include word (Some e)) =
        OnSome (expression_shape declared scope e) (λ s. Included word.text (scope_over s))
    StatementAccepted scope (block opening e body other) =
        let b : Branches = branches opening e scope in
        OnSome (expression_shape declared scope e)
        (λ s. OnSome (b.names s) (λ bs. StatementsAccepted (b.body bs) body)
        × ElseAccepted b.other (may_have_else (opened_kind opening)) other)

    -- each of them
    pub StatementsAccepted : Scope → Statements → Type 0
    StatementsAccepted scope no_statements = Unit {0}
    StatementsAccepted scope (statement_then t ts) = StatementAccepted scope t × StatementsAccepted scope ts

    -- the other branch, if there may be one and is
    pub ElseAccepted : Scope → Bool → Else → Type 0
    ElseAccepted scope false other = Unit {0}
    ElseAccepted scope true no_else = Unit {0}
    ElseAccepted scope true (otherwise body) = StatementsAccepted scope body

-- a template under this name is accepted on the scope, with at most so many includes one inside another
abbrev pub IncludedWithin : Declared → Table → ℕ → List ℕ → Scope → Type 0
IncludedWithin declared table zero name scope = ⊥
IncludedWithin declared table (suc n) name scope =
    OnSome (table name) (λ t. StatementsAccepted declared (IncludedWithin declared table n) scope t.tree)

-- a template is accepted on contexts of a shape, with at most so many includes one inside another
abbrev pub AcceptedWithin : Declared → Table → ℕ → Template → Shape → Type 0
AcceptedWithin declared table n t s =
    StatementsAccepted declared (IncludedWithin declared table n) (scope_over s) t.tree

-- a template's name, with a scope on which it is accepted
pub record Planned : Type 0 where
  pub name : List ℕ
  pub scope : Scope

-- a plan has the name, on a scope that is at least as wide
abbrev pub is_planned : List Planned → List ℕ → Scope → Bool
is_planned [] name scope = false
is_planned (p ∷ plan) name scope = (bytes_eq name p.name && scope_wider p.scope scope) || is_planned plan name scope

-- an include that a plan has
abbrev pub IncludedBy : List Planned → List ℕ → Scope → Type 0
IncludedBy plan name scope = IsTrue (is_planned plan name scope)

-- each template of these is accepted on its scope, where includes are those that the plan has
abbrev pub EachAccepted : Declared → Table → List Planned → List Planned → Type 0
EachAccepted declared table plan [] = Unit {0}
EachAccepted declared table plan (p ∷ rest) =
    OnSome (table p.name) (λ t. StatementsAccepted declared (IncludedBy plan) p.scope t.tree)
    × EachAccepted declared table plan rest

-- the plan is closed: its own templates include what it has, also in a ring
abbrev pub IsClosed : Declared → Table → List Planned → Type 0
IsClosed declared table plan = EachAccepted declared table plan plan

-- a template is accepted on contexts of a shape, where includes are those that the plan has
abbrev pub AcceptedBy : Declared → List Planned → Template → Shape → Type 0
AcceptedBy declared plan t s = StatementsAccepted declared (IncludedBy plan) (scope_over s) t.tree
