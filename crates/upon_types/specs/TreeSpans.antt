-- That something holds of each span in a tree, as that it lies in the text.
use Rattle.std.specs.Prelude.{ℕ, List, [], ◌∷◌, Option, Some, None}
use Rattle.upon_types.specs.declared.types.Span.{Span}
use Rattle.upon_types.specs.Expression.{Expression, base, filtered, Base, var, literal, list, mapping, paren, call, Bases, no_bases, base_then, Items, no_items, item_then, Arguments, no_arguments, arguments}
use Rattle.upon_types.specs.Path.{Access, by_index, by_key, Member}
use Rattle.upon_types.specs.Span.{LiesIn}
use Rattle.upon_types.specs.BlockKinds.{OpeningSpans}
use Rattle.upon_types.specs.Tree.{Statement, raw, inline_expr, include, block, Statements, no_statements, statement_then, Else, no_else, otherwise}

-- names and paths
abbrev pub SelectorSpans : (Span → Type 0) → Access → Type 0
SelectorSpans P (by_index n span) = P span
SelectorSpans P (by_key word) = P word.span

-- the spans of a member of a path
abbrev pub StepSpans : (Span → Type 0) → Member → Type 0
StepSpans P step = P step.span × SelectorSpans P step.access

-- those of each member
abbrev pub StepsSpans : (Span → Type 0) → List Member → Type 0
StepsSpans P [] = Unit {0}
StepsSpans P (step ∷ steps) = StepSpans P step × StepsSpans P steps

-- expressions
abbrev mutual
  -- those of an expression and of what it is made of
  pub ExpressionSpans : (Span → Type 0) → Expression → Type 0
  ExpressionSpans P (base b) = BaseSpans P b
  ExpressionSpans P (filtered receiver name args span) =
      ExpressionSpans P receiver × P name.span × ArgumentsSpans P args × P span

  -- those of an expression without a filter
  pub BaseSpans : (Span → Type 0) → Base → Type 0
  BaseSpans P (var first rest) = StepSpans P first × StepsSpans P rest
  BaseSpans P (literal v span) = P span
  BaseSpans P (list bases span) = BasesSpans P bases × P span
  BaseSpans P (mapping items span) = ItemsSpans P items × P span
  BaseSpans P (paren e span) = ExpressionSpans P e × P span
  BaseSpans P (call name args span) = P name.span × ArgumentsSpans P args × P span

  -- those of the items of a list
  pub BasesSpans : (Span → Type 0) → Bases → Type 0
  BasesSpans P no_bases = Unit {0}
  BasesSpans P (base_then b bs) = BaseSpans P b × BasesSpans P bs

  -- those of the items of a map
  pub ItemsSpans : (Span → Type 0) → Items → Type 0
  ItemsSpans P no_items = Unit {0}
  ItemsSpans P (item_then key b items) = P key.span × BaseSpans P b × ItemsSpans P items

  -- those of the arguments of a call or a filter
  pub ArgumentsSpans : (Span → Type 0) → Arguments → Type 0
  ArgumentsSpans P no_arguments = Unit {0}
  ArgumentsSpans P (arguments bases span) = BasesSpans P bases × P span

-- the value that an include is given
abbrev pub GivenSpans : (Span → Type 0) → Option Expression → Type 0
GivenSpans P None = Unit {0}
GivenSpans P (Some e) = ExpressionSpans P e

-- statements
abbrev mutual
  -- those of a statement and of what it is made of
  pub StatementSpans : (Span → Type 0) → Statement → Type 0
  StatementSpans P (raw span) = P span
  StatementSpans P (inline_expr e span) = ExpressionSpans P e × P span
  StatementSpans P (include word value) = P word.span × GivenSpans P value
  StatementSpans P (block opening e body other) =
      OpeningSpans P opening × ExpressionSpans P e × StatementsSpans P body × ElseSpans P other

  -- those of each statement
  pub StatementsSpans : (Span → Type 0) → Statements → Type 0
  StatementsSpans P no_statements = Unit {0}
  StatementsSpans P (statement_then t ts) = StatementSpans P t × StatementsSpans P ts

  -- those of the statements after `else`
  pub ElseSpans : (Span → Type 0) → Else → Type 0
  ElseSpans P no_else = Unit {0}
  ElseSpans P (otherwise body) = StatementsSpans P body

-- each span in the tree lies in the text
abbrev pub TreeLiesIn : List ℕ → Statements → Type 0
TreeLiesIn source tree = StatementsSpans (LiesIn source) tree
