-- What statements meant before `for .. else`, by recursion on the tree as it was.
use Rattle.std.specs.Prelude.{ℕ, ◌+◌, List, [], ◌∷◌, length, Some, None}
use Rattle.upon_types.specs.declared.types.Span.{Span}
use Rattle.upon_types.specs.Expression.{expression_span}
use Rattle.upon_types.specs.Path.{LoopVars}
use Rattle.upon_types.specs.Span.{slice}
use Rattle.upon_types.specs.Val.{Val}
use Rattle.upon_lookup.specs.Environment.{Binding, Environment, alone_over, with_name, iteration}
use Rattle.upon_lookup.specs.Finding.{Finding, found, at_fault}
use Rattle.upon_lookup.specs.Items.{items_of}
use Rattle.upon_meaning_spec.specs.Emission.{emit}
use Rattle.upon_meaning_spec.specs.Engine.{Calls}
use Rattle.upon_meaning_spec.specs.Evaluation.{evaluate}
use Rattle.upon_meaning_spec.specs.Meaning.{RunningTemplate, Inclusion, Body, in_template, with_value, choose, condition, fault_in}
use Rattle.upon_meaning_spec.specs.Outcome.{Outcome, States, text_outcome, fault_outcome, then_do}
use Rattle.upon_before_spec.specs.Tree.{Statement, raw, inline_expr, include, if_else, for_loop, with, Statements, no_statements, statement_then, Else, no_else, otherwise}

-- the body for each item from this index on, of so many in all, joined up to the first fault
abbrev pub each : {Q : Type 0} → Body Q → ℕ → ℕ → List (List Binding) → Environment → Q → Outcome Q
each body count index [] env q = text_outcome [] q
each body count index (bs ∷ items) env q = then_do (body (iteration index count bs env) q)
    (λ q'. each body count (index + 1) items env q')

-- the body for each item that a loop goes over, or its fault
abbrev pub each_of : {Q : Type 0} → Body Q → RunningTemplate → Finding (List (List Binding)) → Environment → Q
    → Outcome Q
each_of body running (found items) env q = each body (length items) 0 items env q
each_of body running (at_fault f) env q = fault_outcome (fault_in running f) q

-- a loop over a value, whose expression is here
abbrev pub over : {Q : Type 0} → Body Q → RunningTemplate → LoopVars → Span → Environment → Val → Q → Outcome Q
over body running names at env v q = each_of body running (items_of names v at) env q

module _ {V T : Type 0} (calls : Calls V) (include_means : Inclusion V T) (running : RunningTemplate) where
  abbrev mutual
    pub statement_means : Statement → Body (States V T)
    statement_means (raw span) env s = text_outcome (slice running.source span) s
    statement_means (inline_expr e span) env s = in_template running s.templates (emit calls e env s.values)
    statement_means (include word None) env s = include_means running word env s
    statement_means (include word (Some e)) env s =
        with_value running s.templates (evaluate calls e env s.values)
        (λ v s'. include_means running word (alone_over v) s')
    statement_means (if_else negated e body other) env s =
        with_value running s.templates (evaluate calls e env s.values)
        (λ v s'. choose (condition negated v) (statements_mean body env) (else_means other env) s')
    statement_means (for_loop names e body) env s =
        with_value running s.templates (evaluate calls e env s.values)
        (λ v s'. over (statements_mean body) running names (expression_span e) env v s')
    statement_means (with e word body) env s =
        with_value running s.templates (evaluate calls e env s.values)
        (λ v s'. statements_mean body (with_name word v env) s')

    -- joined up to the first fault
    pub statements_mean : Statements → Body (States V T)
    statements_mean no_statements env s = text_outcome [] s
    statements_mean (statement_then t ts) env s = then_do (statement_means t env s) (λ s'. statements_mean ts env s')

    pub else_means : Else → Body (States V T)
    else_means no_else env s = text_outcome [] s
    else_means (otherwise body) env s = statements_mean body env s
