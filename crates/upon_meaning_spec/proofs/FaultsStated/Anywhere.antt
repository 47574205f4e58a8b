-- What holds of every span holds of each span in a tree.
use Rattle.std.proofs.Common.{List, [], ◌∷◌, Option, Some, None}
use Rattle.upon_types.specs.declared.types.Span.{Span}
use Rattle.upon_types.specs.Expression.{Expression, base, filtered, Base, var, literal, list, mapping, paren, call, Bases, no_bases, base_then, Items, no_items, item_then, Arguments, no_arguments, arguments}
use Rattle.upon_types.specs.Path.{Access, by_index, by_key, Member}
use Rattle.upon_types.specs.Tree.{Statement, raw, inline_expr, include, block, Statements, no_statements, statement_then, Else, no_else, otherwise}
use Rattle.upon_types.specs.TreeSpans.{SelectorSpans, StepSpans, StepsSpans, ExpressionSpans, BaseSpans, BasesSpans, ItemsSpans, ArgumentsSpans, GivenSpans, StatementSpans, StatementsSpans, ElseSpans}
use Rattle.upon_meaning_spec.proofs.Turns.{of_opening}

module _ (P : Span → Type 0) (all : (span : Span) → P span) where
  of_selector : (selector : Access) → SelectorSpans P selector
  of_selector (by_index n span) = all span
  of_selector (by_key word) = all word.span

  of_step : (step : Member) → StepSpans P step
  of_step step = (all step.span, of_selector step.access)

  of_steps : (steps : List Member) → StepsSpans P steps
  of_steps [] = tt
  of_steps (step ∷ steps) = (of_step step, of_steps steps)

  mutual
    of_expression : (e : Expression) → ExpressionSpans P e
    of_expression (base b) = of_base b
    of_expression (filtered receiver name args span) = (of_expression receiver, all name.span, of_arguments args, all span)

    of_base : (b : Base) → BaseSpans P b
    of_base (var first rest) = (of_step first, of_steps rest)
    of_base (literal v span) = all span
    of_base (list bases span) = (of_bases bases, all span)
    of_base (mapping items span) = (of_items items, all span)
    of_base (paren e span) = (of_expression e, all span)
    of_base (call name args span) = (all name.span, of_arguments args, all span)

    of_bases : (bs : Bases) → BasesSpans P bs
    of_bases no_bases = tt
    of_bases (base_then b bs) = (of_base b, of_bases bs)

    of_items : (items : Items) → ItemsSpans P items
    of_items no_items = tt
    of_items (item_then key b items) = (all key.span, of_base b, of_items items)

    of_arguments : (args : Arguments) → ArgumentsSpans P args
    of_arguments no_arguments = tt
    of_arguments (arguments bases span) = (of_bases bases, all span)

  of_given : (value : Option Expression) → GivenSpans P value
  of_given None = tt
  of_given (Some e) = of_expression e

  mutual
    of_statement : (t : Statement) → StatementSpans P t
    of_statement (raw span) = all span
    of_statement (inline_expr e span) = (of_expression e, all span)
    of_statement (include word value) = (all word.span, of_given value)
    of_statement (block opening e body other) = (of_opening P all opening, of_expression e, of_statements body, of_else other)

    pub of_statements : (ts : Statements) → StatementsSpans P ts
    of_statements no_statements = tt
    of_statements (statement_then t ts) = (of_statement t, of_statements ts)

    of_else : (t : Else) → ElseSpans P t
    of_else no_else = tt
    of_else (otherwise body) = of_statements body
