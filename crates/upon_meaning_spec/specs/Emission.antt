-- What an expression in a tag of its own writes, and how that ends.
use Rattle.std.specs.Prelude.{ℕ, List, [], ◌∷◌, length, Option, Some, None}
use Rattle.upon_types.specs.declared.types.Span.{Span}
use Rattle.upon_types.specs.Expression.{Expression, base, filtered, Base, var, literal, list, mapping, paren, call}
use Rattle.upon_types.specs.Fault.{Fault}
use Rattle.upon_types.specs.Path.{Ident}
use Rattle.upon_lookup.specs.Environment.{Environment}
use Rattle.upon_lookup.specs.Finding.{Finding, found, at_fault, Reply}
use Rattle.upon_types.specs.Answers.{FormatEnd, well, refused, Formatted, Formatter, Callable, formatter, function}
use Rattle.upon_meaning_spec.specs.CallFaults.{unknown_callable, formatter_expects, not_formatted}
use Rattle.upon_meaning_spec.specs.Engine.{Calls}
use Rattle.upon_meaning_spec.specs.Evaluation.{Operand, values_of, answer_value, append_operand, evaluate, evaluate_base, evaluate_arguments}
use Rattle.upon_meaning_spec.specs.Outcome.{End, good, fails, Outcome}

-- what is emitted: a text, and how it ends
pub record Emission : Type 0 where
  pub text : List ℕ
  pub end : End

-- how a text ends whose formatter ends so
abbrev pub end_of : FormatEnd → Span → End
end_of well at = good
end_of (refused message) at = fails (not_formatted message at)

-- a formatter's text is also before its fault, which lies here
abbrev pub format_outcome : Formatted → Span → Emission
format_outcome f at = record { text = f.text; end = end_of f.end at }

-- a fault before any text
abbrev pub nothing_but : Fault → Emission
nothing_but f = record { text = []; end = fails f }

-- on with what was found, or its fault
abbrev pub or_fault : {A : Type 0} → Finding A → (A → Emission) → Emission
or_fault (found a) go = go a
or_fault (at_fault f) go = nothing_but f

-- a formatter takes one value
abbrev pub formatter_outcome : Formatter → Ident → List Operand → Emission
formatter_outcome f name (o ∷ []) = format_outcome (f o.value) name.span
formatter_outcome f name given = nothing_but (formatter_expects (length given) name.span)

-- All values are there: now the name is looked up. A function's value goes through the default formatter, whose fault
-- lies at the whole; the function's own faults lie at the name.
abbrev pub callable_outcome : Formatter → Ident → Span → List Operand → Option Callable → Emission
callable_outcome default name whole given None = nothing_but (unknown_callable name.span)
callable_outcome default name whole given (Some (formatter f)) = formatter_outcome f name given
callable_outcome default name whole given (Some (function f)) =
    or_fault (answer_value name name.span given (f (values_of given))) (λ v. format_outcome (default v) whole)

-- what is emitted, and the value source's next state
abbrev pub with_state : {V : Type 0} → Emission → V → Outcome V
with_state o q = record { text = o.text; end = o.end; next = q }

-- on with what a reply found, or its fault; the state is added once
abbrev pub emit_found : {V A : Type 0} → Reply V (Finding A) → (A → Emission) → Outcome V
emit_found r go = with_state (or_fault r.answer go) r.next

-- what a filter or call writes
abbrev pub emit_call : {V : Type 0} → Calls V → Ident → Span → Reply V (Finding (List Operand)) → Outcome V
emit_call calls name whole r =
    emit_found r (λ given. callable_outcome calls.default_formatter name whole given (calls.callables name.text))

-- a value goes through the default formatter, whose fault lies where it is
abbrev pub emit_value : {V : Type 0} → Calls V → Reply V (Finding Operand) → Outcome V
emit_value calls r = emit_found r (λ o. format_outcome (calls.default_formatter o.value) o.span)

module _ {V : Type 0} (calls : Calls V) where
  -- parentheses around it make no difference
  abbrev mutual
    pub emit : Expression → Environment → V → Outcome V
    emit (base b) env q = emit_base b env q
    emit (filtered receiver name args span) env q =
        let given = append_operand (evaluate calls receiver env q) (evaluate_arguments calls args env) in
        emit_call calls name span given

    pub emit_base : Base → Environment → V → Outcome V
    emit_base (paren e span) env q = emit e env q
    emit_base (call name args span) env q = emit_call calls name span (evaluate_arguments calls args env q)
    emit_base (var first rest) env q = emit_value calls (evaluate_base calls (var first rest) env q)
    emit_base (literal v span) env q = emit_value calls (evaluate_base calls (literal v span) env q)
    emit_base (list bases span) env q = emit_value calls (evaluate_base calls (list bases span) env q)
    emit_base (mapping items span) env q = emit_value calls (evaluate_base calls (mapping items span) env q)
