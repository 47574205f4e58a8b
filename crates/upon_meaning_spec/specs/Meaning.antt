-- What statements mean: the text that they give, and how it ends, by recursion on the tree.
use Rattle.std.specs.Prelude.{ℕ, ◌+◌, List, [], ◌∷◌, length, not, Option, Some, None, Bool, true, false, codes}
use Rattle.upon_types.specs.declared.types.Span.{Span}
use Rattle.upon_types.specs.Expression.{expression_span}
use Rattle.upon_types.specs.Fault.{Fault, fault_with_picture}
use Rattle.upon_types.specs.Path.{Ident}
use Rattle.upon_types.specs.Span.{slice}
use Rattle.upon_types.specs.BlockKinds.{Opening, if_tag, for_tag, with_tag, opened_kind, may_have_else}
use Rattle.upon_types.specs.Tree.{Statement, raw, inline_expr, include, block, Statements, no_statements, statement_then, Else, no_else, otherwise}
use Rattle.upon_types.specs.Val.{Val}
use Rattle.upon_lookup.specs.Environment.{Binding, binding, plain, loop_state, Environment, alone_over, bind_all}
use Rattle.upon_lookup.specs.Finding.{Finding, found, at_fault, Reply}
use Rattle.upon_lookup.specs.Items.{items_of}
use Rattle.upon_types.specs.Truth.{truth}
use Rattle.upon_meaning_spec.specs.Emission.{emit}
use Rattle.upon_meaning_spec.specs.Engine.{Calls}
use Rattle.upon_meaning_spec.specs.Evaluation.{Operand, evaluate}
use Rattle.upon_meaning_spec.specs.Outcome.{End, good, fails, too_deep, Outcome, States, states, text_outcome, fault_outcome, then_do}

-- the template that runs: its text, and its name if it has one
pub record RunningTemplate : Type 0 where
  pub source : List ℕ
  pub name : Option (List ℕ)

-- a fault bears the running template's name and shows its text; that includes are too deep is reported without either
abbrev pub fault_in : RunningTemplate → Fault → Fault
fault_in running f = record (fault_with_picture running.source f) { name = running.name }

-- an end, with its fault in the template that runs
abbrev pub ends_in : RunningTemplate → End → End
ends_in running good = good
ends_in running (fails f) = fails (fault_in running f)
ends_in running too_deep = too_deep

-- what an include of a name gives in an environment, where this template runs
abbrev pub Inclusion : Type 0 → Type 0 → Type 0
Inclusion V T = RunningTemplate → Ident → Environment → States V T → Outcome (States V T)

-- what a body gives in an environment
abbrev pub Body : Type 0 → Type 0
Body Q = Environment → Q → Outcome Q

-- what an expression writes, in the template that runs; the template source is not asked
abbrev pub in_template : {V T : Type 0} → RunningTemplate → T → Outcome V → Outcome (States V T)
in_template running templates o = record { text = o.text; end = ends_in running o.end; next = states o.next templates }

-- on with a value, or its fault in the template that runs
abbrev pub on_value : {V T : Type 0} → RunningTemplate → Finding Operand → States V T →
    (Val → States V T → Outcome (States V T)) → Outcome (States V T)
on_value running (found o) s go = go o.value s
on_value running (at_fault f) s go = fault_outcome (fault_in running f) s

-- on with the value that an expression gives, and the next state of the value source
abbrev pub with_value : {V T : Type 0} → RunningTemplate → T → Reply V (Finding Operand) →
    (Val → States V T → Outcome (States V T)) → Outcome (States V T)
with_value running templates r go = on_value running r.answer (states r.next templates) go

-- one of two, and then on
abbrev pub choose : {A : Type 0} → Bool → A → A → A
choose true a b = a
choose false a b = b

-- `not` turns a condition round
abbrev pub condition : Bool → Val → Bool
condition negated v = choose negated (not (truth v)) (truth v)

-- what a loop binds in its turns, one for each item from this index on, of so many in all: its state under `loop`,
-- ahead of what the item binds
abbrev pub loop_turns : ℕ → ℕ → List (List Binding) → List (List Binding)
loop_turns n i [] = []
loop_turns n i (bs ∷ more) = (binding (codes "loop") (loop_state i n) ∷ bs) ∷ loop_turns n (i + 1) more

-- what a loop binds in its turns over the items, if these are found
abbrev pub turns_over : Finding (List (List Binding)) → Finding (List (List Binding))
turns_over (found items) = found (loop_turns (length items) 0 items)
turns_over (at_fault f) = at_fault f

-- The turns of a block's body, each as what it binds, for the value of its expression, which is here: an `if` that
-- holds has one that binds nothing, a `for` one for each item, a `with` one that binds its name.
abbrev pub turns : Opening → Span → Val → Finding (List (List Binding))
turns (if_tag negated) at v = found (choose (condition negated v) ([] ∷ []) [])
turns (for_tag names) at v = turns_over (items_of names v at)
turns (with_tag word) at v = found ((binding word.text (plain v) ∷ []) ∷ [])

-- the body in each turn, joined up to the first fault
abbrev pub each : {Q : Type 0} → Body Q → List (List Binding) → Body Q
each body [] env q = text_outcome [] q
each body (bs ∷ more) env q = then_do (body (bind_all bs env) q) (λ q'. each body more env q')

-- the body in each turn, joined up to the first fault; what the other branch gives if there is no turn
abbrev pub each_or : {Q : Type 0} → Body Q → Body Q → RunningTemplate → Finding (List (List Binding)) → Body Q
each_or body other running (found []) env q = other env q
each_or body other running (found (bs ∷ more)) env q = each body (bs ∷ more) env q
each_or body other running (at_fault f) env q = fault_outcome (fault_in running f) q

module _ {V T : Type 0} (calls : Calls V) (include_means : Inclusion V T) (running : RunningTemplate) where
  abbrev mutual
    pub statement_means : Statement → Body (States V T)
    statement_means (raw span) env s = text_outcome (slice running.source span) s
    statement_means (inline_expr e span) env s = in_template running s.templates (emit calls e env s.values)
    statement_means (include word None) env s = include_means running word env s
    statement_means (include word (Some e)) env s =
        with_value running s.templates (evaluate calls e env s.values)
        (λ v s'. include_means running word (alone_over v) s')
    statement_means (block opening e body other) env s =
        with_value running s.templates (evaluate calls e env s.values)
        (λ v s'. each_or (statements_mean body) (else_means other (may_have_else (opened_kind opening))) running
        (turns opening (expression_span e) v) env s')

    -- joined up to the first fault
    pub statements_mean : Statements → Body (States V T)
    statements_mean no_statements env s = text_outcome [] s
    statements_mean (statement_then t ts) env s = then_do (statement_means t env s) (λ s'. statements_mean ts env s')

    -- the other branch of a block, if it may have one
    pub else_means : Else → Bool → Body (States V T)
    else_means (otherwise body) true env s = statements_mean body env s
    else_means other may env s = text_outcome [] s
