-- The places of a tree's doubts lie in its text.
use Rattle.std.proofs.Common.{ℕ, List, [], ◌∷◌, ◌++◌, Bool, true, false, Option, Some, None, inl, inr, subst}
use Rattle.upon_types.specs.BlockKinds.{opened_kind, may_have_else}
use Rattle.upon_types.specs.Expression.{Expression, base, filtered, Base, var, literal, list, mapping, paren, call, Bases, no_bases, base_then, Items, no_items, item_then, Arguments, no_arguments, arguments, expression_span}
use Rattle.upon_types.specs.Path.{Member}
use Rattle.upon_types.specs.Span.{LiesIn}
use Rattle.upon_types.specs.Tree.{Statement, raw, inline_expr, include, block, Statements, no_statements, statement_then, Else, no_else, otherwise}
use Rattle.upon_types.specs.declared.types.Span.{Span}
use Rattle.upon_types.specs.TreeSpans.{ArgumentsSpans, BaseSpans, BasesSpans, ElseSpans, ExpressionSpans, ItemsSpans, StatementSpans, StatementsSpans, StepSpans, StepsSpans}
use Rattle.upon_types.proofs.CombinedSpans.{combined_lies_in}
use Rattle.upon_types.proofs.ExpressionSpans.{expression_place, path_place}
use Rattle.upon_meaning_spec.specs.MapOrder.{IsAmong}
use Rattle.upon_types.specs.TreeSpans.{TreeLiesIn}
use Rattle.upon_shape_spec.specs.Accepted.{Branches, branches}
use Rattle.upon_shape_spec.specs.Declared.{DeclaredCallable, gives_by, formats, Declared}
use Rattle.upon_shape_spec.specs.Doubts.{Doubt, after_found, arguments_doubts, base_doubts, base_shown_doubts, bases_doubts, bound_doubts, bound_or_root_doubts, doubt, else_doubts, expression_doubts, given_doubts, has_items, has_text, if_none, if_some, is_included, items_doubts, loop_has_member, or_names, or_never, shown_call_doubts, shown_doubts, shown_value_doubts, statement_doubts, statements_doubts, takes_values, text_doubts, unless, walk_doubts}
use Rattle.upon_shape_spec.specs.ExpressionShapes.{arguments_shapes, base_shape, expression_shape, is_formatted, shape_then, value_given}
use Rattle.upon_shape_spec.specs.Paths.{MemberShape, may_fail, finds, may_miss, member_shape}
use Rattle.upon_shape_spec.specs.Scope.{BoundShape, value_of, loop_key, a_loop, Scope, bound_shape_of, scope_over, state_shape}
use Rattle.upon_shape_spec.specs.Shape.{Shape, never}
use Rattle.upon_shape_spec.specs.Wider.{wider}

module _ (s : List ℕ) where
  -- ---- of lists of doubts
  -- the place of each lies in the text
  abbrev DoubtsLie : List Doubt → Type 0
  DoubtsLie [] = Unit {0}
  DoubtsLie (d ∷ ds) = LiesIn s d.place × DoubtsLie ds

  among_lies : (d : Doubt) (ds : List Doubt) → DoubtsLie ds → IsAmong d ds → LiesIn s d.place
  among_lies d [] lie among = absurd among
  among_lies d (other ∷ ds) lie among = elim among [
    | inl same ↦ subst (λ (d : Doubt). LiesIn s d.place) same lie.0
    | inr later ↦ among_lies d ds lie.1 later
  ]

  both_lie : (these those : List Doubt) → DoubtsLie these → DoubtsLie those → DoubtsLie (these ++ those)
  both_lie [] those here there = there
  both_lie (d ∷ ds) those here there = (here.0, both_lie ds those here.1 there)

  unless_lies : (b : Bool) (ds : List Doubt) → DoubtsLie ds → DoubtsLie (unless b ds)
  unless_lies true ds lie = tt
  unless_lies false ds lie = lie

  none_lies : {A : Type 0} (o : Option A) (ds : List Doubt) → DoubtsLie ds → DoubtsLie (if_none o ds)
  none_lies None ds lie = lie
  none_lies (Some a) ds lie = tt

  some_lies : {A : Type 0} (o : Option A) (go : A → List Doubt) → ((a : A) → DoubtsLie (go a)) → DoubtsLie (if_some o go)
  some_lies None go lie = tt
  some_lies (Some a) go lie = lie a

  -- ---- of paths
  found_lies : (member : Member) (sh : Shape) (found : MemberShape) (go : Shape → List Doubt) → LiesIn s member.span → ((t : Shape) → DoubtsLie (go t)) → DoubtsLie (after_found member sh found go)
  found_lies member sh may_fail go at lie = (at, tt)
  found_lies member sh (finds t) go at lie = lie t
  found_lies member sh (may_miss t) go at lie = lie t

  walk_lies : (members : List Member) (sh : Shape) → StepsSpans (LiesIn s) members → DoubtsLie (walk_doubts members sh)
  walk_lies [] sh lie = tt
  walk_lies (member ∷ members) sh lie =
      found_lies member sh (member_shape member.op member.access sh) (walk_doubts members) lie.0.0 (λ t. walk_lies members t lie.1)

  bound_lies : (b : BoundShape) (members : List Member) → StepsSpans (LiesIn s) members → DoubtsLie (bound_doubts b members)
  bound_lies (value_of sh) members lie = walk_lies members sh lie
  bound_lies loop_key [] lie = tt
  bound_lies loop_key (member ∷ members) lie = (lie.0.0, tt)
  bound_lies a_loop [] lie = tt
  bound_lies a_loop (member ∷ []) lie =
      none_lies (state_shape member.op member.access) (doubt member.span loop_has_member) (lie.0.0, tt)
  bound_lies a_loop (member ∷ next ∷ members) lie = (lie.1.0.0, tt)

  rooted_lies : (b : Option BoundShape) (root : Shape) (first : Member) (rest : List Member) → StepSpans (LiesIn s) first → StepsSpans (LiesIn s) rest → DoubtsLie (bound_or_root_doubts b root first rest)
  rooted_lies (Some b) root first rest one lie = bound_lies b rest lie
  rooted_lies None root first rest one lie = walk_lies (first ∷ rest) root (one, lie)

  -- ---- of expressions
  given_lies : (at : Span) (callable : Option DeclaredCallable) (shapes : List Shape) → LiesIn s at → DoubtsLie (given_doubts at callable shapes)
  given_lies at callable shapes lie = none_lies (value_given callable shapes) (doubt at (takes_values shapes)) (lie, tt)

  module _ (declared : Declared) (scope : Scope) where
    mutual
      pub expression_lies : (e : Expression) → ExpressionSpans (LiesIn s) e → DoubtsLie (expression_doubts declared scope e)
      expression_lies (base b) lie = base_lies b lie
      expression_lies (filtered receiver name args span) lie =
          both_lie (expression_doubts declared scope receiver ++ arguments_doubts declared scope args) _
          (both_lie (expression_doubts declared scope receiver) (arguments_doubts declared scope args) (expression_lies receiver lie.0) (arguments_lie args lie.2))
          (some_lies (shape_then (expression_shape declared scope receiver) (arguments_shapes declared scope args)) (given_doubts name.span (declared.callables name.text))
          (λ shapes. given_lies name.span (declared.callables name.text) shapes lie.1))

      base_lies : (b : Base) → BaseSpans (LiesIn s) b → DoubtsLie (base_doubts declared scope b)
      base_lies (var first rest) lie = rooted_lies (bound_shape_of first.access scope.names) scope.root first rest lie.0 lie.1
      base_lies (literal v span) lie = tt
      base_lies (list bases span) lie = bases_lie bases lie.0
      base_lies (mapping items span) lie = items_lie items lie.0
      base_lies (paren e span) lie = expression_lies e lie.0
      base_lies (call name args span) lie =
          both_lie (arguments_doubts declared scope args) _ (arguments_lie args lie.1)
          (some_lies (arguments_shapes declared scope args) (given_doubts name.span (declared.callables name.text))
          (λ shapes. given_lies name.span (declared.callables name.text) shapes lie.0))

      bases_lie : (bs : Bases) → BasesSpans (LiesIn s) bs → DoubtsLie (bases_doubts declared scope bs)
      bases_lie no_bases lie = tt
      bases_lie (base_then b bs) lie = both_lie (base_doubts declared scope b) (bases_doubts declared scope bs) (base_lies b lie.0) (bases_lie bs lie.1)

      items_lie : (items : Items) → ItemsSpans (LiesIn s) items → DoubtsLie (items_doubts declared scope items)
      items_lie no_items lie = tt
      items_lie (item_then key b items) lie = both_lie (base_doubts declared scope b) (items_doubts declared scope items) (base_lies b lie.1) (items_lie items lie.2)

      arguments_lie : (args : Arguments) → ArgumentsSpans (LiesIn s) args → DoubtsLie (arguments_doubts declared scope args)
      arguments_lie no_arguments lie = tt
      arguments_lie (arguments bases span) lie = bases_lie bases lie.0

    text_lies : (at : Span) (sh : Shape) → LiesIn s at → DoubtsLie (text_doubts declared scope at sh)
    text_lies at sh lie = unless_lies (wider declared.default_formats sh) (doubt at (has_text sh)) (lie, tt)

    shown_value_lies : (at whole : Span) (shapes : List Shape) (given : Option Shape) → LiesIn s at → LiesIn s whole → DoubtsLie (shown_value_doubts declared scope at whole shapes given)
    shown_value_lies at whole shapes None lie all = (lie, tt)
    shown_value_lies at whole shapes (Some sh) lie all = text_lies whole sh all

    shown_call_lies : (at whole : Span) (callable : Option DeclaredCallable) (shapes : List Shape) → LiesIn s at → LiesIn s whole → DoubtsLie (shown_call_doubts declared scope at whole callable shapes)
    shown_call_lies at whole None shapes lie all = (lie, tt)
    shown_call_lies at whole (Some (gives_by given)) shapes lie all = shown_value_lies at whole shapes (given shapes) lie all
    shown_call_lies at whole (Some (formats sh)) shapes lie all = unless_lies (is_formatted sh shapes) (doubt at (takes_values shapes)) (lie, tt)

    mutual
      pub shown_lies : (e : Expression) → ExpressionSpans (LiesIn s) e → DoubtsLie (shown_doubts declared scope e)
      shown_lies (base b) lie = base_shown_lies b lie
      shown_lies (filtered receiver name args span) lie =
          both_lie (expression_doubts declared scope receiver ++ arguments_doubts declared scope args) _
          (both_lie (expression_doubts declared scope receiver) (arguments_doubts declared scope args) (expression_lies receiver lie.0) (arguments_lie args lie.2))
          (some_lies (shape_then (expression_shape declared scope receiver) (arguments_shapes declared scope args)) (shown_call_doubts declared scope name.span span (declared.callables name.text))
          (λ shapes. shown_call_lies name.span span (declared.callables name.text) shapes lie.1 lie.3))

      base_shown_lies : (b : Base) → BaseSpans (LiesIn s) b → DoubtsLie (base_shown_doubts declared scope b)
      base_shown_lies (paren e span) lie = shown_lies e lie.0
      base_shown_lies (call name args span) lie =
          both_lie (arguments_doubts declared scope args) _ (arguments_lie args lie.1)
          (some_lies (arguments_shapes declared scope args) (shown_call_doubts declared scope name.span span (declared.callables name.text))
          (λ shapes. shown_call_lies name.span span (declared.callables name.text) shapes lie.0 lie.2))
      base_shown_lies (var first rest) lie =
          both_lie (base_doubts declared scope (var first rest)) _ (base_lies (var first rest) lie)
          (some_lies (base_shape declared scope (var first rest)) (text_doubts declared scope (expression_span (base (var first rest)))) (λ sh. text_lies (expression_span (base (var first rest))) sh (path_place (LiesIn s) (combined_lies_in s) first rest lie.0 lie.1)))
      base_shown_lies (literal v span) lie =
          some_lies (base_shape declared scope (literal v span)) (text_doubts declared scope span) (λ sh. text_lies span sh lie)
      base_shown_lies (list bases span) lie =
          both_lie (base_doubts declared scope (list bases span)) _ (base_lies (list bases span) lie)
          (some_lies (base_shape declared scope (list bases span)) (text_doubts declared scope span) (λ sh. text_lies span sh lie.1))
      base_shown_lies (mapping items span) lie =
          both_lie (base_doubts declared scope (mapping items span)) _ (base_lies (mapping items span) lie)
          (some_lies (base_shape declared scope (mapping items span)) (text_doubts declared scope span) (λ sh. text_lies span sh lie.1))

  -- ---- of statements
  module _ (declared : Declared) (included : List ℕ → Scope → Bool) where
    mutual
      pub statement_lies : (scope : Scope) (t : Statement) → StatementSpans (LiesIn s) t → DoubtsLie (statement_doubts declared included scope t)
      statement_lies scope (raw span) lie = tt
      statement_lies scope (inline_expr e span) lie = shown_lies declared scope e lie.0
      statement_lies scope (include word None) lie =
          unless_lies (included word.text scope) (doubt word.span (is_included word.text scope)) (lie.0, tt)
      statement_lies scope (include word (Some e)) lie =
          both_lie (expression_doubts declared scope e) _ (expression_lies declared scope e lie.1)
          (some_lies (expression_shape declared scope e) (λ sh. unless (included word.text (scope_over sh)) (doubt word.span (is_included word.text (scope_over sh))))
          (λ sh. unless_lies (included word.text (scope_over sh)) (doubt word.span (is_included word.text (scope_over sh))) (lie.0, tt)))
      statement_lies scope (block opening e body other) lie =
          let sh : Shape = or_never (expression_shape declared scope e) in
          let b : Branches = branches opening e scope in
          both_lie (expression_doubts declared scope e) _ (expression_lies declared scope e lie.1)
          (both_lie _ _ (none_lies (b.names sh) (doubt (expression_span e) (has_items sh)) (expression_place (LiesIn s) (combined_lies_in s) e lie.1, tt))
          (both_lie _ _ (statements_lie (b.body (or_names (b.names sh) (b.names never))) body lie.2)
          (else_lies b.other (may_have_else (opened_kind opening)) other lie.3)))

      pub statements_lie : (scope : Scope) (ts : Statements) → StatementsSpans (LiesIn s) ts → DoubtsLie (statements_doubts declared included scope ts)
      statements_lie scope no_statements lie = tt
      statements_lie scope (statement_then t ts) lie = both_lie (statement_doubts declared included scope t) _ (statement_lies scope t lie.0) (statements_lie scope ts lie.1)

      else_lies : (scope : Scope) (may : Bool) (other : Else) → ElseSpans (LiesIn s) other → DoubtsLie (else_doubts declared included scope may other)
      else_lies scope false other lie = tt
      else_lies scope true no_else lie = tt
      else_lies scope true (otherwise body) lie = statements_lie scope body lie

    -- a doubt of a tree
    pub doubt_lies : (scope : Scope) (tree : Statements) (d : Doubt) → TreeLiesIn s tree → IsAmong d (statements_doubts declared included scope tree) → LiesIn s d.place
    doubt_lies scope tree d lie among = among_lies d (statements_doubts declared included scope tree) (statements_lie scope tree lie) among
