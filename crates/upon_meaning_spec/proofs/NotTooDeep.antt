-- Outcomes that do not end because includes are too deep, and what keeps this true of them.
use Rattle.std.proofs.Common.{◌≢◌, ℕ, ◌+◌, List, [], ◌∷◌, length, Option, Some, None, Bool, true, false}
use Rattle.upon_types.specs.declared.types.Span.{Span}
use Rattle.upon_types.specs.Expression.{Expression, base, filtered, Base, var, literal, list, mapping, paren, call}
use Rattle.upon_types.specs.Path.{Ident}
use Rattle.upon_types.specs.Val.{Val}
use Rattle.upon_lookup.specs.Environment.{Binding, Environment, bind_all}
use Rattle.upon_lookup.specs.Finding.{Finding, found, at_fault, Reply}
use Rattle.upon_types.specs.Answers.{FormatEnd, well, refused, Formatter, Callable, formatter, function}
use Rattle.upon_meaning_spec.specs.Emission.{Emission, end_of, or_fault, formatter_outcome, callable_outcome, emit_call, emit_value, emit, emit_base}
use Rattle.upon_meaning_spec.specs.Engine.{Calls}
use Rattle.upon_meaning_spec.specs.Evaluation.{Operand, values_of, answer_value, append_operand, evaluate, evaluate_base, evaluate_arguments}
use Rattle.upon_meaning_spec.specs.Meaning.{RunningTemplate, ends_in, Body, each, each_or, on_value}
use Rattle.upon_meaning_spec.specs.Outcome.{End, good, fails, too_deep, Outcome, States, go_on, then_do}

abbrev pub NotTooDeep : End → Type 0
NotTooDeep good = Unit {0}
NotTooDeep (fails f) = Unit {0}
NotTooDeep too_deep = ⊥

pub is_not_too_deep : (end : End) → NotTooDeep end → end ≢ too_deep
is_not_too_deep good h e = cc
is_not_too_deep (fails f) h e = cc
is_not_too_deep too_deep h e = h

pub ends_not_too_deep : (from : RunningTemplate) (end : End) → NotTooDeep end → NotTooDeep (ends_in from end)
ends_not_too_deep from good h = tt
ends_not_too_deep from (fails f) h = tt
ends_not_too_deep from too_deep h = h

module _ {Q : Type 0} where
  by_go_on : (text : List ℕ) (end : End) (q : Q) (go : Q → Outcome Q) → NotTooDeep end → ((q : Q) → NotTooDeep (go q).end) → NotTooDeep (go_on text end q go).end
  by_go_on text good q go h k = k q
  by_go_on text (fails f) q go h k = tt
  by_go_on text too_deep q go h k = h

  pub then_not_too_deep : (o : Outcome Q) (go : Q → Outcome Q) → NotTooDeep o.end → ((q : Q) → NotTooDeep (go q).end) → NotTooDeep (then_do o go).end
  then_not_too_deep o go h k = by_go_on o.text o.end o.next go h k

  each_not_too_deep : (body : Body Q) → ((env : Environment) (q : Q) → NotTooDeep (body env q).end) → (turns : List (List Binding)) (env : Environment) (q : Q) → NotTooDeep (each body turns env q).end
  each_not_too_deep body h [] env q = tt
  each_not_too_deep body h (bs ∷ turns) env q = then_not_too_deep (body (bind_all bs env) q) _ (h (bind_all bs env) q) (each_not_too_deep body h turns env)

  pub each_or_not_too_deep : (body other : Body Q) → ((env : Environment) (q : Q) → NotTooDeep (body env q).end) → ((env : Environment) (q : Q) → NotTooDeep (other env q).end) → (from : RunningTemplate) (x : Finding (List (List Binding))) (env : Environment) (q : Q) → NotTooDeep (each_or body other from x env q).end
  each_or_not_too_deep body other h k from (found []) env q = k env q
  each_or_not_too_deep body other h k from (found (bs ∷ turns)) env q = each_not_too_deep body h (bs ∷ turns) env q
  each_or_not_too_deep body other h k from (at_fault f) env q = tt

module _ {V T : Type 0} where
  pub value_not_too_deep : (from : RunningTemplate) (x : Finding Operand) (s : States V T) (go : Val → States V T → Outcome (States V T)) → ((v : Val) (s : States V T) → NotTooDeep (go v s).end) → NotTooDeep (on_value from x s go).end
  value_not_too_deep from (found o) s go h = h o.value s
  value_not_too_deep from (at_fault f) s go h = tt

-- what an expression writes ends well or with a fault
format_not_too_deep : (end : FormatEnd) (at : Span) → NotTooDeep (end_of end at)
format_not_too_deep well at = tt
format_not_too_deep (refused message) at = tt

shown_not_too_deep : {A : Type 0} (x : Finding A) (go : A → Emission) → ((a : A) → NotTooDeep (go a).end) → NotTooDeep (or_fault x go).end
shown_not_too_deep (found a) go h = h a
shown_not_too_deep (at_fault f) go h = tt

formatted_not_too_deep : (f : Formatter) (name : Ident) (given : List Operand) → NotTooDeep (formatter_outcome f name given).end
formatted_not_too_deep f name [] = tt
formatted_not_too_deep f name (o ∷ []) = format_not_too_deep (f o.value).end name.span
formatted_not_too_deep f name (o ∷ p ∷ given) = tt

emitted_not_too_deep : (default : Formatter) (name : Ident) (whole : Span) (given : List Operand) (callable : Option Callable) → NotTooDeep (callable_outcome default name whole given callable).end
emitted_not_too_deep default name whole given None = tt
emitted_not_too_deep default name whole given (Some (formatter f)) = formatted_not_too_deep f name given
emitted_not_too_deep default name whole given (Some (function f)) = shown_not_too_deep (answer_value name name.span given (f (values_of given))) _ (λ v. format_not_too_deep (default v).end whole)

module _ {V : Type 0} where
  applied_not_too_deep : (calls : Calls V) (name : Ident) (whole : Span) (r : Reply V (Finding (List Operand))) → NotTooDeep (emit_call calls name whole r).end
  applied_not_too_deep calls name whole r = shown_not_too_deep r.answer _ (λ os. emitted_not_too_deep calls.default_formatter name whole os (calls.callables name.text))

  emit_value_not_too_deep : (calls : Calls V) (r : Reply V (Finding Operand)) → NotTooDeep (emit_value calls r).end
  emit_value_not_too_deep calls r = shown_not_too_deep r.answer _ (λ o. format_not_too_deep (calls.default_formatter o.value).end o.span)

module _ {V : Type 0} (calls : Calls V) where
  mutual
    pub emit_not_too_deep : (e : Expression) (env : Environment) (q : V) → NotTooDeep (emit calls e env q).end
    emit_not_too_deep (base b) env q = emit_base_not_too_deep b env q
    emit_not_too_deep (filtered receiver name args span) env q = applied_not_too_deep calls name span (append_operand (evaluate calls receiver env q) (evaluate_arguments calls args env))

    emit_base_not_too_deep : (b : Base) (env : Environment) (q : V) → NotTooDeep (emit_base calls b env q).end
    emit_base_not_too_deep (paren e span) env q = emit_not_too_deep e env q
    emit_base_not_too_deep (call name args span) env q = applied_not_too_deep calls name span (evaluate_arguments calls args env q)
    emit_base_not_too_deep (var first rest) env q = emit_value_not_too_deep calls (evaluate_base calls (var first rest) env q)
    emit_base_not_too_deep (literal v span) env q = emit_value_not_too_deep calls (evaluate_base calls (literal v span) env q)
    emit_base_not_too_deep (list bases span) env q = emit_value_not_too_deep calls (evaluate_base calls (list bases span) env q)
    emit_base_not_too_deep (mapping items span) env q = emit_value_not_too_deep calls (evaluate_base calls (mapping items span) env q)
