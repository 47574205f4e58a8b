-- That every span in a tree lies in a text, on character boundaries.
use Rattle.std.specs.Prelude.{ℕ, List, [], ◌∷◌, Option, Some, None}
use Rattle.upon_types.specs.Span.{LiesIn}
use Rattle.upon_types.specs.Path.{Member, access_span, path_span}
use Rattle.upon_types.specs.Expression.{Expression, base, filtered, Base, var, literal, list, mapping, paren, call, Bases, no_bases, base_then, Items, no_items, item_then, Arguments, no_arguments, arguments}
use Rattle.upon_types.specs.Tree.{Statement, raw, inline_expr, include, block, Statements, no_statements, statement_then, Else, no_else, otherwise}
use Rattle.upon_types.specs.BlockKinds.{OpeningSpans}

-- the spans of a member of a path
abbrev pub StepLiesIn : List ℕ → Member → Type 0
StepLiesIn s step = LiesIn s (access_span step.access) × LiesIn s step.span

-- the spans of each member
abbrev pub StepsLieIn : List ℕ → List Member → Type 0
StepsLieIn s [] = Unit {0}
StepsLieIn s (step ∷ steps) = StepLiesIn s step × StepsLieIn s steps

abbrev mutual
  -- the spans of an expression and of what it is made of
  pub ExpressionLiesIn : List ℕ → Expression → Type 0
  ExpressionLiesIn s (base b) = BaseLiesIn s b
  ExpressionLiesIn s (filtered e name args span) =
      ExpressionLiesIn s e × LiesIn s name.span × ArgumentsLieIn s args × LiesIn s span

  -- those of an expression without a filter
  pub BaseLiesIn : List ℕ → Base → Type 0
  BaseLiesIn s (var first others) = StepLiesIn s first × StepsLieIn s others × LiesIn s (path_span first others)
  BaseLiesIn s (literal v span) = LiesIn s span
  BaseLiesIn s (list bases span) = BasesLieIn s bases × LiesIn s span
  BaseLiesIn s (mapping items span) = ItemsLieIn s items × LiesIn s span
  BaseLiesIn s (paren e span) = ExpressionLiesIn s e × LiesIn s span
  BaseLiesIn s (call name args span) = LiesIn s name.span × ArgumentsLieIn s args × LiesIn s span

  -- those of the items of a list
  pub BasesLieIn : List ℕ → Bases → Type 0
  BasesLieIn s no_bases = Unit {0}
  BasesLieIn s (base_then b bs) = BaseLiesIn s b × BasesLieIn s bs

  -- those of the items of a map
  pub ItemsLieIn : List ℕ → Items → Type 0
  ItemsLieIn s no_items = Unit {0}
  ItemsLieIn s (item_then key b items) = LiesIn s key.span × BaseLiesIn s b × ItemsLieIn s items

  -- those of the arguments of a call or a filter
  pub ArgumentsLieIn : List ℕ → Arguments → Type 0
  ArgumentsLieIn s no_arguments = Unit {0}
  ArgumentsLieIn s (arguments bases span) = BasesLieIn s bases × LiesIn s span

-- the spans of the value that an include is given
abbrev pub ContextLiesIn : List ℕ → Option Expression → Type 0
ContextLiesIn s None = Unit {0}
ContextLiesIn s (Some e) = ExpressionLiesIn s e

abbrev mutual
  -- the spans of a statement and of what it is made of
  pub StatementLiesIn : List ℕ → Statement → Type 0
  StatementLiesIn s (raw span) = LiesIn s span
  StatementLiesIn s (inline_expr e span) = ExpressionLiesIn s e × LiesIn s span
  StatementLiesIn s (include name context) = LiesIn s name.span × ContextLiesIn s context
  StatementLiesIn s (block opening e body other) =
      OpeningSpans (LiesIn s) opening × ExpressionLiesIn s e × StatementsLieIn s body × ElseLiesIn s other

  -- those of each statement
  pub StatementsLieIn : List ℕ → Statements → Type 0
  StatementsLieIn s no_statements = Unit {0}
  StatementsLieIn s (statement_then t ts) = StatementLiesIn s t × StatementsLieIn s ts

  -- those of the statements after `else`
  pub ElseLiesIn : List ℕ → Else → Type 0
  ElseLiesIn s no_else = Unit {0}
  ElseLiesIn s (otherwise body) = StatementsLieIn s body
