-- What is emitted ends well, or with one of the stated faults, at an offset of the expression.
use Rattle.std.proofs.Common.{◌≡◌, ℕ, List, [], ◌∷◌, length, Option, Some, None, refl}
use Rattle.upon_types.specs.declared.types.Span.{Span}
use Rattle.upon_types.specs.Answers.{FormatEnd, well, refused, Formatter, Callable, formatter, function}
use Rattle.upon_types.specs.Expression.{Expression, base, filtered, Base, var, literal, list, mapping, paren, call}
use Rattle.upon_types.specs.Fault.{format}
use Rattle.upon_types.specs.Path.{Ident}
use Rattle.upon_types.specs.TreeSpans.{ExpressionSpans, BaseSpans}
use Rattle.upon_types.specs.Val.{Val}
use Rattle.upon_types.proofs.ExpressionSpans.{Covers}
use Rattle.upon_lookup.specs.Environment.{Environment}
use Rattle.upon_lookup.specs.Finding.{Finding, found, at_fault, Reply}
use Rattle.upon_meaning_spec.specs.Emission.{Emission, end_of, format_outcome, or_fault, formatter_outcome, callable_outcome, emit_call, emit_value, emit, emit_base}
use Rattle.upon_meaning_spec.specs.Engine.{Calls, Resolver}
use Rattle.upon_meaning_spec.specs.Evaluation.{Operand, values_of, answer_value, append_operand, evaluate, evaluate_base, evaluate_arguments}
use Rattle.upon_meaning_spec.specs.Outcome.{End, good, fails, too_deep}
use Rattle.upon_meaning_spec.specs.RenderFaults.{EachSpan, IsStated, unknown_callable, formatter_expects, formatter_refused, default_refused}
use Rattle.upon_meaning_spec.proofs.FaultsStated.Expressions.{AtSpan, answered_fine, then_fine, expression_fine, base_fine, arguments_fine}
use Rattle.upon_meaning_spec.proofs.FaultsStated.Lookups.{Any, IsFine, FoundFine, wrong_fine}

module _ {V T : Type 0} (calls : Calls V) (resolve : Resolver T) (P : Span → Type 0) where
  abbrev pub EndFine : End → Type 0
  EndFine good = Unit {0}
  EndFine (fails f) = IsFine calls resolve P f
  EndFine too_deep = Unit {0}

  end_fine : (end : FormatEnd) (at : Span) → ((message : Option (List ℕ)) → end ≡ refused message → IsStated calls resolve format message) → P at → EndFine (end_of end at)
  end_fine well at h k = tt
  end_fine (refused message) at h k = record { stated = h message refl; span = at; placed = refl; lies = k }

  -- the default formatter
  pub default_fine : (v : Val) (at : Span) → P at → EndFine (format_outcome (calls.default_formatter v) at).end
  default_fine v at k = end_fine (calls.default_formatter v).end at (λ message e. default_refused v message e) k

  found_shown : {A : Type 0} (Q : A → Type 0) (x : Finding A) (go : A → Emission) → FoundFine calls resolve P Q x → ((a : A) → Q a → EndFine (go a).end) → EndFine (or_fault x go).end
  found_shown Q (found a) go h k = k a h
  found_shown Q (at_fault f) go h k = h

  formatted_fine : (f : Formatter) (name : Ident) (given : List Operand) → calls.callables name.text ≡ Some (formatter f) → P name.span → EndFine (formatter_outcome f name given).end
  formatted_fine f name [] is n = wrong_fine calls resolve P _ name.span (formatter_expects 0) n
  formatted_fine f name (o ∷ []) is n = end_fine (f o.value).end name.span (λ message e. formatter_refused name.text f o.value message is e) n
  formatted_fine f name (o ∷ p ∷ given) is n = wrong_fine calls resolve P _ name.span (formatter_expects (length (o ∷ p ∷ given))) n

  emitted_by : (name : Ident) (whole : Span) (given : List Operand) (callable : Option Callable) → calls.callables name.text ≡ callable → EachSpan P given → P name.span → P whole → EndFine (callable_outcome calls.default_formatter name whole given callable).end
  emitted_by name whole given None is h n k = wrong_fine calls resolve P _ name.span unknown_callable n
  emitted_by name whole given (Some (formatter f)) is h n k = formatted_fine f name given is n
  emitted_by name whole given (Some (function f)) is h n k = found_shown Any (answer_value name name.span given (f (values_of given))) _ (answered_fine calls resolve P name name.span given f (f (values_of given)) is refl h n) (λ v x. default_fine v whole k)

  pub emitted_fine : (name : Ident) (whole : Span) (given : List Operand) → EachSpan P given → P name.span → P whole → EndFine (callable_outcome calls.default_formatter name whole given (calls.callables name.text)).end
  emitted_fine name whole given h n k = emitted_by name whole given (calls.callables name.text) refl h n k

  applied_fine : (name : Ident) (whole : Span) (r : Reply V (Finding (List Operand))) → FoundFine calls resolve P (EachSpan P) r.answer → P name.span → P whole → EndFine (emit_call calls name whole r).end
  applied_fine name whole r h n k = found_shown (EachSpan P) r.answer _ h (λ os x. emitted_fine name whole os x n k)

  value_fine : (r : Reply V (Finding Operand)) → FoundFine calls resolve P (AtSpan calls resolve P) r.answer → EndFine (emit_value calls r).end
  value_fine r h = found_shown (AtSpan calls resolve P) r.answer _ h (λ o x. default_fine o.value o.span x)

  module _ (covers : Covers P) (env : Environment) where
    mutual
      pub emission_fine : (e : Expression) (q : V) → ExpressionSpans P e → EndFine (emit calls e env q).end
      emission_fine (base b) q h = base_emission_fine b q h
      emission_fine (filtered receiver name args span) q h =
          applied_fine name span (append_operand (evaluate calls receiver env q) (evaluate_arguments calls args env))
          (then_fine calls resolve P (evaluate calls receiver env q) (evaluate_arguments calls args env) (expression_fine calls resolve P covers env receiver q h.0) (λ q'. arguments_fine calls resolve P covers env args q' h.2)) h.1 h.3

      base_emission_fine : (b : Base) (q : V) → BaseSpans P b → EndFine (emit_base calls b env q).end
      base_emission_fine (paren e span) q h = emission_fine e q h.0
      base_emission_fine (call name args span) q h = applied_fine name span (evaluate_arguments calls args env q) (arguments_fine calls resolve P covers env args q h.1) h.0 h.2
      base_emission_fine (var first rest) q h = value_fine (evaluate_base calls (var first rest) env q) (base_fine calls resolve P covers env (var first rest) q h)
      base_emission_fine (literal v span) q h = value_fine (evaluate_base calls (literal v span) env q) h
      base_emission_fine (list bases span) q h = value_fine (evaluate_base calls (list bases span) env q) (base_fine calls resolve P covers env (list bases span) q h)
      base_emission_fine (mapping items span) q h = value_fine (evaluate_base calls (mapping items span) env q) (base_fine calls resolve P covers env (mapping items span) q h)
