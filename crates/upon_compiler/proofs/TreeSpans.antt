-- That each span in a tree lies in a text has one proof at most, and follows where they lie in it on character boundaries.
use Rattle.std.proofs.Common.{◌≡◌, ℕ, List, [], ◌∷◌, Option, Some, None}
use Rattle.std.proofs.Props.{props}
use Rattle.upon_types.specs.Expression.{Expression, base, filtered, Base, var, literal, list, mapping, paren, call, Bases, no_bases, base_then, Items, no_items, item_then, Arguments, no_arguments, arguments}
use Rattle.upon_types.specs.Path.{Access, by_index, by_key, Member, LoopVars, item, key_value, access_span}
use Rattle.upon_types.specs.Span.{LiesIn}
use Rattle.upon_types.specs.declared.types.Span.{Span}
use Rattle.upon_types.specs.BlockKinds.{Opening, for_tag, LoopNamesSpans, OpeningSpans}
use Rattle.upon_types.specs.Tree.{Statement, raw, inline_expr, include, block, Statements, no_statements, statement_then, Else, no_else, otherwise}
use Rattle.upon_types.specs.TreeSpans.{SelectorSpans, StepSpans, StepsSpans, ExpressionSpans, BaseSpans, BasesSpans, ItemsSpans, ArgumentsSpans, GivenSpans, StatementSpans, StatementsSpans, ElseSpans, TreeLiesIn}
use Rattle.upon_language_spec.specs.SpansLieIn.{StepLiesIn, StepsLieIn, ExpressionLiesIn, BaseLiesIn, BasesLieIn, ItemsLieIn, ArgumentsLieIn, ContextLiesIn, StatementLiesIn, StatementsLieIn, ElseLiesIn}

module _ (s : List ℕ) where
  abbrev P : Span → Type 0
  P = LiesIn s

  access-prop : (a : Access) (x y : SelectorSpans P a) → x ≡ y
  access-prop (by_index n span) = hlevel props
  access-prop (by_key word) = hlevel props

  step-prop : (m : Member) (x y : StepSpans P m) → x ≡ y
  step-prop m = hlevel (props, access-prop m.access)

  steps-prop : (ms : List Member) (x y : StepsSpans P ms) → x ≡ y
  steps-prop [] = hlevel props
  steps-prop (m ∷ ms) = hlevel (props, step-prop m, steps-prop ms)

  names-prop : (names : LoopVars) (x y : LoopNamesSpans P names) → x ≡ y
  names-prop (item name) = hlevel props
  names-prop (key_value key value both) = hlevel props

  opening-prop : (opening : Opening) (x y : OpeningSpans P opening) → x ≡ y
  opening-prop (for_tag names) = names-prop names
  opening-prop _ = hlevel props

  mutual
    expression-prop : (e : Expression) (x y : ExpressionSpans P e) → x ≡ y
    expression-prop (base b) = base-prop b
    expression-prop (filtered e name args span) = hlevel (props, expression-prop e, arguments-prop args)

    base-prop : (b : Base) (x y : BaseSpans P b) → x ≡ y
    base-prop (var first rest) = hlevel (props, step-prop first, steps-prop rest)
    base-prop (literal v span) = hlevel props
    base-prop (list bs span) = hlevel (props, bases-prop bs)
    base-prop (mapping items span) = hlevel (props, items-prop items)
    base-prop (paren e span) = hlevel (props, expression-prop e)
    base-prop (call name args span) = hlevel (props, arguments-prop args)

    bases-prop : (bs : Bases) (x y : BasesSpans P bs) → x ≡ y
    bases-prop no_bases = hlevel props
    bases-prop (base_then b bs) = hlevel (props, base-prop b, bases-prop bs)

    items-prop : (items : Items) (x y : ItemsSpans P items) → x ≡ y
    items-prop no_items = hlevel props
    items-prop (item_then key b items) = hlevel (props, base-prop b, items-prop items)

    arguments-prop : (args : Arguments) (x y : ArgumentsSpans P args) → x ≡ y
    arguments-prop no_arguments = hlevel props
    arguments-prop (arguments bs span) = hlevel (props, bases-prop bs)

  given-prop : (value : Option Expression) (x y : GivenSpans P value) → x ≡ y
  given-prop None = hlevel props
  given-prop (Some e) = expression-prop e

  mutual
    statement-prop : (t : Statement) (x y : StatementSpans P t) → x ≡ y
    statement-prop (raw span) = hlevel props
    statement-prop (inline_expr e span) = hlevel (props, expression-prop e)
    statement-prop (include word value) = hlevel (props, given-prop value)
    statement-prop (block opening e body other) = hlevel (props, opening-prop opening, expression-prop e, statements-prop body, else-prop other)

    statements-prop : (ts : Statements) (x y : StatementsSpans P ts) → x ≡ y
    statements-prop no_statements = hlevel props
    statements-prop (statement_then t ts) = hlevel (props, statement-prop t, statements-prop ts)

    else-prop : (other : Else) (x y : ElseSpans P other) → x ≡ y
    else-prop no_else = hlevel props
    else-prop (otherwise body) = statements-prop body

  pub TreeLiesIn-prop : (tree : Statements) (x y : TreeLiesIn s tree) → x ≡ y
  TreeLiesIn-prop = statements-prop

  access_spans : (a : Access) → LiesIn s (access_span a) → SelectorSpans P a
  access_spans (by_index n span) h = h
  access_spans (by_key word) h = h

  step_spans : (m : Member) → StepLiesIn s m → StepSpans P m
  step_spans m h = (h.1, access_spans m.access h.0)

  steps_spans : (ms : List Member) → StepsLieIn s ms → StepsSpans P ms
  steps_spans [] h = tt
  steps_spans (m ∷ ms) h = (step_spans m h.0, steps_spans ms h.1)

  mutual
    expression_spans : (e : Expression) → ExpressionLiesIn s e → ExpressionSpans P e
    expression_spans (base b) h = base_spans b h
    expression_spans (filtered e name args span) h = (expression_spans e h.0, h.1, arguments_spans args h.2, h.3)

    base_spans : (b : Base) → BaseLiesIn s b → BaseSpans P b
    base_spans (var first rest) h = (step_spans first h.0, steps_spans rest h.1)
    base_spans (literal v span) h = h
    base_spans (list bs span) h = (bases_spans bs h.0, h.1)
    base_spans (mapping items span) h = (items_spans items h.0, h.1)
    base_spans (paren e span) h = (expression_spans e h.0, h.1)
    base_spans (call name args span) h = (h.0, arguments_spans args h.1, h.2)

    bases_spans : (bs : Bases) → BasesLieIn s bs → BasesSpans P bs
    bases_spans no_bases h = tt
    bases_spans (base_then b bs) h = (base_spans b h.0, bases_spans bs h.1)

    items_spans : (items : Items) → ItemsLieIn s items → ItemsSpans P items
    items_spans no_items h = tt
    items_spans (item_then key b items) h = (h.0, base_spans b h.1, items_spans items h.2)

    arguments_spans : (args : Arguments) → ArgumentsLieIn s args → ArgumentsSpans P args
    arguments_spans no_arguments h = tt
    arguments_spans (arguments bs span) h = (bases_spans bs h.0, h.1)

  given_spans : (value : Option Expression) → ContextLiesIn s value → GivenSpans P value
  given_spans None h = tt
  given_spans (Some e) h = expression_spans e h

  mutual
    statement_spans : (t : Statement) → StatementLiesIn s t → StatementSpans P t
    statement_spans (raw span) h = h
    statement_spans (inline_expr e span) h = (expression_spans e h.0, h.1)
    statement_spans (include word value) h = (h.0, given_spans value h.1)
    statement_spans (block opening e body other) h = (h.0, expression_spans e h.1, statements_spans body h.2, else_spans other h.3)

    statements_spans : (ts : Statements) → StatementsLieIn s ts → StatementsSpans P ts
    statements_spans no_statements h = tt
    statements_spans (statement_then t ts) h = (statement_spans t h.0, statements_spans ts h.1)

    else_spans : (other : Else) → ElseLiesIn s other → ElseSpans P other
    else_spans no_else h = tt
    else_spans (otherwise body) h = statements_spans body h

  pub tree_spans : (tree : Statements) → StatementsLieIn s tree → TreeLiesIn s tree
  tree_spans = statements_spans
