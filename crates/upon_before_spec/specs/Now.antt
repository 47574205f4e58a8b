-- The trees of before as trees of today: each `for` has no other branch. So too templates, answers and tables.
use Rattle.upon_lookup.specs.Finding.{Reply, reply}
use Rattle.upon_lookup.specs.Source.{SourceAnswer, says, refuses}
use Rattle.upon_types.specs.Tree.{Statement, raw, inline_expr, include, if_else, for_loop, with, Statements, no_statements, statement_then, Else, no_else, otherwise}
use Rattle.upon_meaning_spec.specs.Engine.{Template}
use Rattle.upon_before_spec.specs.Tree.{Statement as StatementBefore, raw as raw_before, inline_expr as inline_before, include as include_before, if_else as if_before, for_loop as for_before, with as with_before, Statements as StatementsBefore, no_statements as none_before, statement_then as then_before, Else as ElseBefore, no_else as no_else_before, otherwise as otherwise_before}
use Rattle.upon_before_spec.specs.Alone.{Template as TemplateBefore}

abbrev mutual
  -- a statement
  pub statement_now : StatementBefore → Statement
  statement_now (raw_before span) = raw span
  statement_now (inline_before e span) = inline_expr e span
  statement_now (include_before word given) = include word given
  statement_now (if_before negated e body other) = if_else negated e (statements_now body) (else_now other)
  statement_now (for_before names e body) = for_loop names e (statements_now body) no_else
  statement_now (with_before e name body) = with e name (statements_now body)

  -- statements one after the other
  pub statements_now : StatementsBefore → Statements
  statements_now none_before = no_statements
  statements_now (then_before t ts) = statement_then (statement_now t) (statements_now ts)

  -- the other branch of an `if`
  pub else_now : ElseBefore → Else
  else_now no_else_before = no_else
  else_now (otherwise_before body) = otherwise (statements_now body)

-- a template
abbrev pub template_now : TemplateBefore → Template
template_now t = record { source = t.source; tree = statements_now t.tree }

-- an answer of a template source
abbrev pub answer_now : SourceAnswer TemplateBefore → SourceAnswer Template
answer_now (says t) = says (template_now t)
answer_now (refuses text) = refuses text

-- an answer with the next state
abbrev pub reply_now : {T : Type 0} → Reply T (SourceAnswer TemplateBefore) → Reply T (SourceAnswer Template)
reply_now r = reply (answer_now r.answer) r.next
