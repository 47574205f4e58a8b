-- An include is in doubt only where it is not known not to fail.
use Rattle.std.proofs.Common.{◌≡◌, inl, inr, ℕ, List, [], ◌∷◌, ◌++◌, Bool, true, false, Option, Some, None, refl, subst}
use Rattle.upon_types.specs.declared.types.Span.{Span}
use Rattle.upon_types.specs.Expression.{Expression, base, filtered, Base, var, literal, list, mapping, paren, call, Bases, no_bases, base_then, Items, no_items, item_then, Arguments, no_arguments, arguments, expression_span}
use Rattle.upon_types.specs.Path.{Member}
use Rattle.upon_types.specs.BlockKinds.{opened_kind, may_have_else}
use Rattle.upon_types.specs.Tree.{Statement, raw, inline_expr, include, block, Statements, no_statements, statement_then, Else, no_else, otherwise}
use Rattle.upon_meaning_spec.specs.MapOrder.{IsAmong}
use Rattle.upon_shape_spec.specs.Accepted.{Branches, branches}
use Rattle.upon_shape_spec.specs.Declared.{DeclaredCallable, gives_by, formats, Declared}
use Rattle.upon_shape_spec.specs.Doubts.{Unsure, Doubt, doubt, has_member, loop_has_member, takes_values, has_text, has_items, is_included, unless, if_none, if_some, after_found, walk_doubts, bound_doubts, bound_or_root_doubts, given_doubts, expression_doubts, base_doubts, bases_doubts, items_doubts, arguments_doubts, shown_value_doubts, shown_call_doubts, text_doubts, shown_doubts, base_shown_doubts, or_never, or_names, statement_doubts, statements_doubts, else_doubts}
use Rattle.upon_shape_spec.specs.ExpressionShapes.{value_given, is_formatted, shape_then, expression_shape, base_shape, arguments_shapes}
use Rattle.upon_shape_spec.specs.Paths.{MemberShape, may_fail, finds, may_miss, member_shape}
use Rattle.upon_shape_spec.specs.Scope.{BoundShape, value_of, loop_key, a_loop, Scope, scope_over, bound_shape_of, state_shape}
use Rattle.upon_shape_spec.specs.Shape.{Shape, never}
use Rattle.upon_shape_spec.specs.Wider.{wider}

module _ (included : List ℕ → Scope → Bool) where
  -- if it is an include, it is not known not to fail
  abbrev pub IsOut : Unsure → Type 0
  IsOut (has_member s) = Unit {0}
  IsOut loop_has_member = Unit {0}
  IsOut (takes_values ss) = Unit {0}
  IsOut (has_text s) = Unit {0}
  IsOut (has_items s) = Unit {0}
  IsOut (is_included name scope) = included name scope ≡ false

  abbrev pub EachOut : List Doubt → Type 0
  EachOut [] = Unit {0}
  EachOut (d ∷ ds) = IsOut d.unsure × EachOut ds

  pub among_out : (d : Doubt) (ds : List Doubt) → EachOut ds → IsAmong d ds → IsOut d.unsure
  among_out d [] each h = absurd h
  among_out d (e ∷ es) each (inl same) = subst (λ (d : Doubt). IsOut d.unsure) same each.0
  among_out d (e ∷ es) each (inr h) = among_out d es each.1 h

  both_out : (ds es : List Doubt) → EachOut ds → EachOut es → EachOut (ds ++ es)
  both_out [] es f g = g
  both_out (d ∷ ds) es f g = (f.0, both_out ds es f.1 g)

  unless_out : (b : Bool) (at : Span) (unsure : Unsure) → IsOut unsure → EachOut (unless b (doubt at unsure))
  unless_out true at unsure h = tt
  unless_out false at unsure h = (h, tt)

  none_out : {A : Type 0} (o : Option A) (at : Span) (unsure : Unsure) → IsOut unsure → EachOut (if_none o (doubt at unsure))
  none_out None at unsure h = (h, tt)
  none_out (Some a) at unsure h = tt

  some_out : {A : Type 0} (o : Option A) (go : A → List Doubt) → ((a : A) → EachOut (go a)) → EachOut (if_some o go)
  some_out None go f = tt
  some_out (Some a) go f = f a

  include_out : (name : List ℕ) (scope : Scope) (at : Span) (b : Bool) → included name scope ≡ b → EachOut (unless b (doubt at (is_included name scope)))
  include_out name scope at true is = tt
  include_out name scope at false is = (is, tt)

  -- ---- paths
  found_out : (member : Member) (s : Shape) (m : MemberShape) (go : Shape → List Doubt) → ((t : Shape) → EachOut (go t)) → EachOut (after_found member s m go)
  found_out member s may_fail go f = (tt, tt)
  found_out member s (finds t) go f = f t
  found_out member s (may_miss t) go f = f t

  walk_out : (members : List Member) (s : Shape) → EachOut (walk_doubts members s)
  walk_out [] s = tt
  walk_out (member ∷ members) s = found_out member s (member_shape member.op member.access s) (walk_doubts members) (walk_out members)

  bound_out : (b : BoundShape) (members : List Member) → EachOut (bound_doubts b members)
  bound_out (value_of s) members = walk_out members s
  bound_out loop_key [] = tt
  bound_out loop_key (member ∷ members) = (tt, tt)
  bound_out a_loop [] = tt
  bound_out a_loop (member ∷ []) = none_out (state_shape member.op member.access) member.span loop_has_member tt
  bound_out a_loop (member ∷ after ∷ members) = (tt, tt)

  root_out : (o : Option BoundShape) (root : Shape) (first : Member) (rest : List Member) → EachOut (bound_or_root_doubts o root first rest)
  root_out (Some b) root first rest = bound_out b rest
  root_out None root first rest = walk_out (first ∷ rest) root

  given_out : (at : Span) (callable : Option DeclaredCallable) (shapes : List Shape) → EachOut (given_doubts at callable shapes)
  given_out at callable shapes = none_out (value_given callable shapes) at (takes_values shapes) tt

  module _ (declared : Declared) where
    module _ (scope : Scope) where
      -- ---- expressions
      mutual
        expression_out : (e : Expression) → EachOut (expression_doubts declared scope e)
        expression_out (base b) = base_out b
        expression_out (filtered receiver name args span) =
            both_out (expression_doubts declared scope receiver ++ arguments_doubts declared scope args) _
            (both_out (expression_doubts declared scope receiver) (arguments_doubts declared scope args) (expression_out receiver) (arguments_out args))
            (some_out (shape_then (expression_shape declared scope receiver) (arguments_shapes declared scope args)) (given_doubts name.span (declared.callables name.text)) (given_out name.span (declared.callables name.text)))

        base_out : (b : Base) → EachOut (base_doubts declared scope b)
        base_out (var first rest) = root_out (bound_shape_of first.access scope.names) scope.root first rest
        base_out (literal v span) = tt
        base_out (list bases span) = bases_out bases
        base_out (mapping items span) = items_out items
        base_out (paren e span) = expression_out e
        base_out (call name args span) =
            both_out (arguments_doubts declared scope args) _ (arguments_out args)
            (some_out (arguments_shapes declared scope args) (given_doubts name.span (declared.callables name.text)) (given_out name.span (declared.callables name.text)))

        bases_out : (bs : Bases) → EachOut (bases_doubts declared scope bs)
        bases_out no_bases = tt
        bases_out (base_then b bs) = both_out (base_doubts declared scope b) (bases_doubts declared scope bs) (base_out b) (bases_out bs)

        items_out : (items : Items) → EachOut (items_doubts declared scope items)
        items_out no_items = tt
        items_out (item_then key b items) = both_out (base_doubts declared scope b) (items_doubts declared scope items) (base_out b) (items_out items)

        arguments_out : (args : Arguments) → EachOut (arguments_doubts declared scope args)
        arguments_out no_arguments = tt
        arguments_out (arguments bases span) = bases_out bases

      text_out : (at : Span) (s : Shape) → EachOut (text_doubts declared scope at s)
      text_out at s = unless_out (wider declared.default_formats s) at (has_text s) tt

      value_out : (at whole : Span) (shapes : List Shape) (o : Option Shape) → EachOut (shown_value_doubts declared scope at whole shapes o)
      value_out at whole shapes None = (tt, tt)
      value_out at whole shapes (Some s) = text_out whole s

      shown_call_out : (at whole : Span) (callable : Option DeclaredCallable) (shapes : List Shape) → EachOut (shown_call_doubts declared scope at whole callable shapes)
      shown_call_out at whole None shapes = (tt, tt)
      shown_call_out at whole (Some (gives_by given)) shapes = value_out at whole shapes (given shapes)
      shown_call_out at whole (Some (formats s)) shapes = unless_out (is_formatted s shapes) at (takes_values shapes) tt

      call_out : (at whole : Span) (callable : Option DeclaredCallable) (ds : List Doubt) (ss : Option (List Shape)) → EachOut ds → EachOut (ds ++ if_some ss (shown_call_doubts declared scope at whole callable))
      call_out at whole callable ds ss f = both_out ds _ f (some_out ss (shown_call_doubts declared scope at whole callable) (shown_call_out at whole callable))

      texts_out : (at : Span) (ds : List Doubt) (o : Option Shape) → EachOut ds → EachOut (ds ++ if_some o (text_doubts declared scope at))
      texts_out at ds o f = both_out ds _ f (some_out o (text_doubts declared scope at) (text_out at))

      mutual
        shown_out : (e : Expression) → EachOut (shown_doubts declared scope e)
        shown_out (base b) = base_shown_out b
        shown_out (filtered receiver name args span) =
            call_out name.span span (declared.callables name.text) (expression_doubts declared scope receiver ++ arguments_doubts declared scope args) (shape_then (expression_shape declared scope receiver) (arguments_shapes declared scope args))
            (both_out (expression_doubts declared scope receiver) (arguments_doubts declared scope args) (expression_out receiver) (arguments_out args))

        base_shown_out : (b : Base) → EachOut (base_shown_doubts declared scope b)
        base_shown_out (paren e span) = shown_out e
        base_shown_out (call name args span) = call_out name.span span (declared.callables name.text) (arguments_doubts declared scope args) (arguments_shapes declared scope args) (arguments_out args)
        base_shown_out (var first rest) = texts_out (expression_span (base (var first rest))) (base_doubts declared scope (var first rest)) (base_shape declared scope (var first rest)) (base_out (var first rest))
        base_shown_out (literal v span) = texts_out span [] (base_shape declared scope (literal v span)) tt
        base_shown_out (list bases span) = texts_out span (base_doubts declared scope (list bases span)) (base_shape declared scope (list bases span)) (base_out (list bases span))
        base_shown_out (mapping items span) = texts_out span (base_doubts declared scope (mapping items span)) (base_shape declared scope (mapping items span)) (base_out (mapping items span))

    -- ---- statements
    mutual
      statement_out : (scope : Scope) (t : Statement) → EachOut (statement_doubts declared included scope t)
      statement_out scope (raw span) = tt
      statement_out scope (inline_expr e span) = shown_out scope e
      statement_out scope (include word None) = include_out word.text scope word.span (included word.text scope) refl
      statement_out scope (include word (Some e)) =
          both_out (expression_doubts declared scope e) _ (expression_out scope e)
          (some_out (expression_shape declared scope e)
          (λ s. unless (included word.text (scope_over s)) (doubt word.span (is_included word.text (scope_over s))))
          (λ s. include_out word.text (scope_over s) word.span (included word.text (scope_over s)) refl))
      statement_out scope (block opening e body other) =
          let s : Shape = or_never (expression_shape declared scope e) in
          let b : Branches = branches opening e scope in
          let may : Bool = may_have_else (opened_kind opening) in
          let inner : Scope = b.body (or_names (b.names s) (b.names never)) in
          both_out (expression_doubts declared scope e) _ (expression_out scope e)
          (both_out (if_none (b.names s) (doubt (expression_span e) (has_items s))) _ (none_out (b.names s) (expression_span e) (has_items s) tt)
          (both_out (statements_doubts declared included inner body) (else_doubts declared included b.other may other)
          (statements_out inner body) (else_out b.other may other)))

      pub statements_out : (scope : Scope) (ts : Statements) → EachOut (statements_doubts declared included scope ts)
      statements_out scope no_statements = tt
      statements_out scope (statement_then t ts) =
          both_out (statement_doubts declared included scope t) (statements_doubts declared included scope ts) (statement_out scope t) (statements_out scope ts)

      else_out : (scope : Scope) (may : Bool) (t : Else) → EachOut (else_doubts declared included scope may t)
      else_out scope false t = tt
      else_out scope true no_else = tt
      else_out scope true (otherwise body) = statements_out scope body
