-- Where a template that is not accepted is in doubt, in the order of its text: each place, and what is not sure there.
use Rattle.std.specs.Prelude.{ℕ, List, [], ◌∷◌, ◌++◌, Bool, true, false, Option, Some, None}
use Rattle.upon_types.specs.declared.types.Span.{Span}
use Rattle.upon_types.specs.Expression.{Expression, base, filtered, Base, var, literal, list, mapping, paren, call, Bases, no_bases, base_then, Items, no_items, item_then, Arguments, no_arguments, arguments, expression_span}
use Rattle.upon_types.specs.Path.{Member, LoopVars}
use Rattle.upon_types.specs.BlockKinds.{opened_kind, may_have_else}
use Rattle.upon_types.specs.Tree.{Statement, raw, inline_expr, include, block, Statements, no_statements, statement_then, Else, no_else, otherwise}
use Rattle.upon_shape_spec.specs.Accepted.{loop_names, Branches, branches}
use Rattle.upon_shape_spec.specs.Declared.{DeclaredCallable, gives_by, formats, Declared}
use Rattle.upon_shape_spec.specs.ExpressionShapes.{value_given, is_formatted, shape_then, expression_shape, base_shape, arguments_shapes}
use Rattle.upon_shape_spec.specs.Paths.{MemberShape, may_fail, finds, may_miss, member_shape}
use Rattle.upon_shape_spec.specs.Scope.{BoundShape, value_of, loop_key, a_loop, NameShape, Scope, scope_over, bound_shape_of, state_shape}
use Rattle.upon_shape_spec.specs.Shape.{Shape, never}
use Rattle.upon_shape_spec.specs.Wider.{wider}

-- what is not sure: that a value of this shape, or a loop's key or state, has the member; that a callable takes values
-- of these shapes; that a value of this shape has a text, or items for these names; that the template of this name does
-- not fail here
pub data Unsure : Type 0 where
  has_member : Shape → Unsure
  loop_has_member : Unsure
  takes_values : List Shape → Unsure
  has_text : Shape → Unsure
  has_items : Shape → Unsure
  is_included : List ℕ → Scope → Unsure

-- what is not sure, and where
pub record Doubt : Type 0 where
  pub place : Span
  pub unsure : Unsure

-- one doubt
abbrev pub doubt : Span → Unsure → List Doubt
doubt at unsure = record { place = at; unsure = unsure } ∷ []

-- a doubt, unless a test holds
abbrev pub unless : Bool → List Doubt → List Doubt
unless true ds = []
unless false ds = ds

-- a doubt, if there is nothing
abbrev pub if_none : {A : Type 0} → Option A → List Doubt → List Doubt
if_none None ds = ds
if_none (Some a) ds = []

-- names, or else others, or else none
abbrev pub or_names : Option (List NameShape) → Option (List NameShape) → List NameShape
or_names (Some bs) others = bs
or_names None None = []
or_names None (Some bs) = bs

-- the doubts about what is there; where nothing is, there are some already
abbrev pub if_some : {A : Type 0} → Option A → (A → List Doubt) → List Doubt
if_some None go = []
if_some (Some a) go = go a

-- on with what a member finds
abbrev pub after_found : Member → Shape → MemberShape → (Shape → List Doubt) → List Doubt
after_found member s may_fail go = doubt member.span (has_member s)
after_found member s (finds t) go = go t
after_found member s (may_miss t) go = go t

-- of the first member that may not be found
abbrev pub walk_doubts : List Member → Shape → List Doubt
walk_doubts [] s = []
walk_doubts (member ∷ members) s =
    after_found member s (member_shape member.op member.access s) (walk_doubts members)

-- of what is found after a name
abbrev pub bound_doubts : BoundShape → List Member → List Doubt
bound_doubts (value_of s) members = walk_doubts members s
bound_doubts loop_key [] = []
bound_doubts loop_key (member ∷ members) = doubt member.span loop_has_member
bound_doubts a_loop [] = []
bound_doubts a_loop (member ∷ []) =
    if_none (state_shape member.op member.access) (doubt member.span loop_has_member)
bound_doubts a_loop (member ∷ next ∷ members) = doubt next.span loop_has_member

-- of what is found after a name that is bound, or else in the context
abbrev pub bound_or_root_doubts : Option BoundShape → Shape → Member → List Member → List Doubt
bound_or_root_doubts (Some b) root first rest = bound_doubts b rest
bound_or_root_doubts None root first rest = walk_doubts (first ∷ rest) root

-- of what a path finds
abbrev pub path_doubts : Scope → Member → List Member → List Doubt
path_doubts scope first rest = bound_or_root_doubts (bound_shape_of first.access scope.names) scope.root first rest

-- of what a callable gives
abbrev pub given_doubts : Span → Option DeclaredCallable → List Shape → List Doubt
given_doubts at callable shapes = if_none (value_given callable shapes) (doubt at (takes_values shapes))

module _ (declared : Declared) (scope : Scope) where
  -- what is in doubt inside first, and then what it is given to
  abbrev mutual
    -- that an expression comes to something
    pub expression_doubts : Expression → List Doubt
    expression_doubts (base b) = base_doubts b
    expression_doubts (filtered receiver name args span) =
        (expression_doubts receiver ++ arguments_doubts args)
        ++ if_some (shape_then (expression_shape declared scope receiver) (arguments_shapes declared scope args))
        (given_doubts name.span (declared.callables name.text))

    -- that an expression without a filter comes to something
    pub base_doubts : Base → List Doubt
    base_doubts (var first rest) = path_doubts scope first rest
    base_doubts (literal v span) = []
    base_doubts (list bases span) = bases_doubts bases
    base_doubts (mapping items span) = items_doubts items
    base_doubts (paren e span) = expression_doubts e
    base_doubts (call name args span) =
        arguments_doubts args
        ++ if_some (arguments_shapes declared scope args) (given_doubts name.span (declared.callables name.text))

    -- of each of some
    pub bases_doubts : Bases → List Doubt
    bases_doubts no_bases = []
    bases_doubts (base_then b bs) = base_doubts b ++ bases_doubts bs

    -- of each item's value
    pub items_doubts : Items → List Doubt
    items_doubts no_items = []
    items_doubts (item_then key b items) = base_doubts b ++ items_doubts items

    -- of each argument
    pub arguments_doubts : Arguments → List Doubt
    arguments_doubts no_arguments = []
    arguments_doubts (arguments bases span) = bases_doubts bases

  -- that a value has a text
  abbrev pub text_doubts : Span → Shape → List Doubt
  text_doubts at s = unless (wider declared.default_formats s) (doubt at (has_text s))

  -- that what a function gives has a text; the value is at the whole
  abbrev pub shown_value_doubts : Span → Span → List Shape → Option Shape → List Doubt
  shown_value_doubts at whole shapes None = doubt at (takes_values shapes)
  shown_value_doubts at whole shapes (Some s) = text_doubts whole s

  -- that what a callable gives is shown
  abbrev pub shown_call_doubts : Span → Span → Option DeclaredCallable → List Shape → List Doubt
  shown_call_doubts at whole None shapes = doubt at (takes_values shapes)
  shown_call_doubts at whole (Some (gives_by given)) shapes = shown_value_doubts at whole shapes (given shapes)
  shown_call_doubts at whole (Some (formats s)) shapes = unless (is_formatted s shapes) (doubt at (takes_values shapes))

  abbrev mutual
    -- that an expression is shown
    pub shown_doubts : Expression → List Doubt
    shown_doubts (base b) = base_shown_doubts b
    shown_doubts (filtered receiver name args span) =
        (expression_doubts receiver ++ arguments_doubts args)
        ++ if_some (shape_then (expression_shape declared scope receiver) (arguments_shapes declared scope args))
        (shown_call_doubts name.span span (declared.callables name.text))

    -- that an expression without a filter is shown; parentheses make no difference
    pub base_shown_doubts : Base → List Doubt
    base_shown_doubts (paren e span) = shown_doubts e
    base_shown_doubts (call name args span) =
        arguments_doubts args
        ++ if_some (arguments_shapes declared scope args)
        (shown_call_doubts name.span span (declared.callables name.text))
    base_shown_doubts (var first rest) =
        base_doubts (var first rest)
        ++ if_some (base_shape declared scope (var first rest)) (text_doubts (expression_span (base (var first rest))))
    base_shown_doubts (literal v span) = if_some (base_shape declared scope (literal v span)) (text_doubts span)
    base_shown_doubts (list bases span) =
        base_doubts (list bases span)
        ++ if_some (base_shape declared scope (list bases span)) (text_doubts span)
    base_shown_doubts (mapping items span) =
        base_doubts (mapping items span)
        ++ if_some (base_shape declared scope (mapping items span)) (text_doubts span)

-- that a loop's value has items for its names
abbrev pub items_in_doubt : Span → LoopVars → Shape → List Doubt
items_in_doubt at names s = if_none (loop_names names s) (doubt at (has_items s))

-- the shape of an expression's value; where the expression is in doubt, that of no value, of which nothing is in doubt:
-- a doubt is told once
abbrev pub or_never : Option Shape → Shape
or_never None = never
or_never (Some s) = s

-- what a loop binds, also one that is in doubt
abbrev pub bound_names : LoopVars → Shape → List NameShape
bound_names names s = or_names (loop_names names s) (loop_names names never)

-- where a test says which includes, on which scopes, do not fail
module _ (declared : Declared) (included : List ℕ → Scope → Bool) where
  abbrev mutual
    -- of a statement; a body's own doubts are told also where its expression is in doubt
    pub statement_doubts : Scope → Statement → List Doubt
    statement_doubts scope (raw span) = []
    statement_doubts scope (inline_expr e span) = shown_doubts declared scope e
    statement_doubts scope (include word None) =
        unless (included word.text scope) (doubt word.span (is_included word.text scope))
    statement_doubts scope (include word (Some e)) =
        expression_doubts declared scope e
        ++ if_some (expression_shape declared scope e)
        (λ s. unless (included word.text (scope_over s)) (doubt word.span (is_included word.text (scope_over s))))
    statement_doubts scope (block opening e body other) =
        let s : Shape = or_never (expression_shape declared scope e) in
        let b : Branches = branches opening e scope in
        expression_doubts declared scope e
        ++ (if_none (b.names s) (doubt (expression_span e) (has_items s))
        ++ (statements_doubts (b.body (or_names (b.names s) (b.names never))) body
        ++ else_doubts b.other (may_have_else (opened_kind opening)) other))

    -- of each of them
    pub statements_doubts : Scope → Statements → List Doubt
    statements_doubts scope no_statements = []
    statements_doubts scope (statement_then t ts) = statement_doubts scope t ++ statements_doubts scope ts

    -- of the other branch, if there may be one
    pub else_doubts : Scope → Bool → Else → List Doubt
    else_doubts scope false other = []
    else_doubts scope true no_else = []
    else_doubts scope true (otherwise body) = statements_doubts scope body
