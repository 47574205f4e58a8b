-- What holds of each span in a tree holds of each span in its program.
use Rattle.std.proofs.Common.{ℕ, ◌+◌, List, [], ◌∷◌, ◌++◌, length, Some, None}
use Rattle.upon_types.specs.declared.types.Span.{Span}
use Rattle.upon_types.specs.Expression.{Expression, base, filtered, Base, var, literal, list, mapping, paren, call, Bases, no_bases, base_then, Items, no_items, item_then, Arguments, no_arguments, arguments, expression_span}
use Rattle.upon_types.specs.Tree.{Statement, raw, inline_expr, include, block, Statements, no_statements, statement_then, Else, no_else, otherwise}
use Rattle.upon_types.specs.TreeSpans.{ExpressionSpans, BaseSpans, BasesSpans, ItemsSpans, ArgumentsSpans, StatementSpans, StatementsSpans, ElseSpans}
use Rattle.upon_types.proofs.ExpressionSpans.{Covers, expression_place}
use Rattle.upon_machine_spec.specs.Code.{expression_code, base_code, bases_code, arguments_code, list_code, map_code, emission_code, base_emission_code, body_start, statement_code, statements_code, else_code, program_of}
use Rattle.upon_machine_spec.specs.Instr.{Instr, emit}
use Rattle.upon_machine_spec.specs.Spans.{CodeSpans}
use Rattle.upon_machine_spec.proofs.BlockCode.{spans_append as joined, past_body, block_spans}

module _ (P : Span → Type 0) where
  mutual
    expression_spans : (e : Expression) → ExpressionSpans P e → CodeSpans P (expression_code e)
    expression_spans (base b) h = base_spans b h
    expression_spans (filtered receiver name args span) h = joined P (expression_code receiver) _ (expression_spans receiver h.0) (joined P (arguments_code args) _ (arguments_spans args h.2) ((h.1, h.3), tt))

    base_spans : (b : Base) → BaseSpans P b → CodeSpans P (base_code b)
    base_spans (var first rest) h = (h, tt)
    base_spans (literal v span) h = (h, tt)
    base_spans (list bases span) h = (h.1, list_spans bases h.0)
    base_spans (mapping items span) h = (h.1, map_spans items h.0)
    base_spans (paren e span) h = expression_spans e h.0
    base_spans (call name args span) h = joined P (arguments_code args) _ (arguments_spans args h.1) ((h.0, h.2), tt)

    bases_spans : (bs : Bases) → BasesSpans P bs → CodeSpans P (bases_code bs)
    bases_spans no_bases h = tt
    bases_spans (base_then b bs) h = joined P (base_code b) _ (base_spans b h.0) (bases_spans bs h.1)

    arguments_spans : (args : Arguments) → ArgumentsSpans P args → CodeSpans P (arguments_code args)
    arguments_spans no_arguments h = tt
    arguments_spans (arguments bases span) h = bases_spans bases h.0

    list_spans : (bs : Bases) → BasesSpans P bs → CodeSpans P (list_code bs)
    list_spans no_bases h = tt
    list_spans (base_then b bs) h = joined P (base_code b) _ (base_spans b h.0) (tt, list_spans bs h.1)

    map_spans : (items : Items) → ItemsSpans P items → CodeSpans P (map_code items)
    map_spans no_items h = tt
    map_spans (item_then key b items) h = joined P (base_code b) _ (base_spans b h.1) (h.0, map_spans items h.2)

  plain_spans : (b : Base) → BaseSpans P b → CodeSpans P (base_code b ++ (emit ∷ []))
  plain_spans b h = joined P (base_code b) _ (base_spans b h) (tt, tt)

  mutual
    emission_spans : (e : Expression) → ExpressionSpans P e → CodeSpans P (emission_code e)
    emission_spans (base b) h = base_emission_spans b h
    emission_spans (filtered receiver name args span) h = joined P (expression_code receiver) _ (expression_spans receiver h.0) (joined P (arguments_code args) _ (arguments_spans args h.2) ((h.1, h.3), tt))

    base_emission_spans : (b : Base) → BaseSpans P b → CodeSpans P (base_emission_code b)
    base_emission_spans (paren e span) h = emission_spans e h.0
    base_emission_spans (call name args span) h = joined P (arguments_code args) _ (arguments_spans args h.1) ((h.0, h.2), tt)
    base_emission_spans (var first rest) h = plain_spans (var first rest) h
    base_emission_spans (literal v span) h = plain_spans (literal v span) h
    base_emission_spans (list bases span) h = plain_spans (list bases span) h
    base_emission_spans (mapping items span) h = plain_spans (mapping items span) h

  module _ (covers : Covers P) where
    mutual
      statement_spans : (at : ℕ) (t : Statement) → StatementSpans P t → CodeSpans P (statement_code at t)
      statement_spans at (raw span) h = (h, tt)
      statement_spans at (inline_expr e span) h = emission_spans e h.0
      statement_spans at (include word None) h = (h.0, tt)
      statement_spans at (include word (Some e)) h = joined P (expression_code e) _ (expression_spans e h.1) (h.0, tt)
      statement_spans at (block opening e body branch) h =
          let start : ℕ = at + length (expression_code e) in
          let inner : List Instr = statements_code (body_start opening start) body in
          let to : ℕ = past_body opening branch start inner in
          joined P (expression_code e) _ (expression_spans e h.1) (block_spans P opening branch (expression_span e) start inner (else_code to branch) h.0 (expression_place P covers e h.1) (statements_spans (body_start opening start) body h.2) (branch_spans branch to h.3))

      statements_spans : (at : ℕ) (ts : Statements) → StatementsSpans P ts → CodeSpans P (statements_code at ts)
      statements_spans at no_statements h = tt
      statements_spans at (statement_then t ts) h = joined P (statement_code at t) _ (statement_spans at t h.0) (statements_spans (at + length (statement_code at t)) ts h.1)

      branch_spans : (branch : Else) (at : ℕ) → ElseSpans P branch → CodeSpans P (else_code at branch)
      branch_spans no_else at h = tt
      branch_spans (otherwise body) at h = statements_spans at body h

    pub program_spans : (tree : Statements) → StatementsSpans P tree → CodeSpans P (program_of tree)
    program_spans tree h = statements_spans 0 tree h
