-- Expressions that are alike but for spans write the same text, and end alike.
use Rattle.std.proofs.Common.{◌≡◌, ℕ, List, [], ◌∷◌, length, Option, Some, None, refl, subst}
use Rattle.upon_types.specs.declared.types.Span.{Span}
use Rattle.upon_types.specs.Answers.{FormatEnd, well, refused, Formatter, Callable, formatter, function}
use Rattle.upon_types.specs.Expression.{Expression, base, filtered, Base, var, literal, list, mapping, paren, call}
use Rattle.upon_types.specs.Path.{Ident}
use Rattle.upon_types.specs.Val.{Val}
use Rattle.upon_lookup.specs.Environment.{Environment}
use Rattle.upon_lookup.specs.Finding.{Finding, found, at_fault, Reply}
use Rattle.upon_meaning_spec.specs.Alike.{WordsAlike, ExpressionsAlike, BaseAlike, without_span, EndsAlike, OutcomesAlike}
use Rattle.upon_meaning_spec.specs.CallFaults.{formatter_expects}
use Rattle.upon_meaning_spec.specs.Emission.{Emission, end_of, format_outcome, or_fault, formatter_outcome, callable_outcome, emit_found, emit_call, emit_value, emit, emit_base}
use Rattle.upon_meaning_spec.specs.Engine.{Calls}
use Rattle.upon_meaning_spec.specs.Evaluation.{Operand, values_of, answer_value, evaluate, evaluate_arguments}
use Rattle.upon_meaning_spec.proofs.AlikeRenderings.Expressions.{SameValue, SameValues, length_same, asked_alike, others_alike, value_alike, base_alike, arguments_alike}
use Rattle.upon_meaning_spec.proofs.AlikeRenderings.Lookups.{FoundAlike, One, ReplyAlike}

pub record EmissionsAlike (one other : Emission) : Type 0 where
  pub text : one.text ≡ other.text
  pub end : EndsAlike one.end other.end

ends_here : (end : FormatEnd) (at at' : Span) → EndsAlike (end_of end at) (end_of end at')
ends_here well at at' = tt
ends_here (refused message) at at' = refl

shown_alike : (f : Formatter) (v w : Val) (at at' : Span) → v ≡ w → EmissionsAlike (format_outcome (f v) at) (format_outcome (f w) at')
shown_alike f v w at at' h = subst (λ x. EmissionsAlike (format_outcome (f v) at) (format_outcome (f x) at')) h (record { text = refl; end = ends_here (f v).end at at' })

found_alike : {A : Type 0} (R : A → A → Type 0) (x y : Finding A) (go go' : A → Emission) → FoundAlike R x y → ((a b : A) → R a b → EmissionsAlike (go a) (go' b)) → EmissionsAlike (or_fault x go) (or_fault y go')
found_alike R (found a) (found b) go go' h k = k a b h
found_alike R (at_fault f) (at_fault g) go go' h k = record { text = refl; end = h }
found_alike R (found a) (at_fault g) go go' h k = absurd h
found_alike R (at_fault f) (found b) go go' h k = absurd h

expects_alike : (m n : ℕ) (at at' : Span) → m ≡ n → without_span (formatter_expects m at) ≡ without_span (formatter_expects n at')
expects_alike m n at at' h = λ i. without_span (formatter_expects (h i) at)

formatted_alike : (f : Formatter) (name name' : Ident) (given given' : List Operand) → SameValues given given' → EmissionsAlike (formatter_outcome f name given) (formatter_outcome f name' given')
formatted_alike f name name' [] [] h = record { text = refl; end = refl }
formatted_alike f name name' (a ∷ []) (b ∷ []) h = shown_alike f a.value b.value name.span name'.span h.0
formatted_alike f name name' (a ∷ c ∷ given) (b ∷ d ∷ given') h = record { text = refl; end = expects_alike (length (a ∷ c ∷ given)) (length (b ∷ d ∷ given')) name.span name'.span (length_same (a ∷ c ∷ given) (b ∷ d ∷ given') h) }
formatted_alike f name name' [] (b ∷ given') h = absurd h
formatted_alike f name name' (a ∷ given) [] h = absurd h
formatted_alike f name name' (a ∷ []) (b ∷ d ∷ given') h = absurd h.1
formatted_alike f name name' (a ∷ c ∷ given) (b ∷ []) h = absurd h.1

emitted_by : (default : Formatter) (name name' : Ident) (whole whole' : Span) (given given' : List Operand) (callable : Option Callable) → WordsAlike name name' → SameValues given given' → EmissionsAlike (callable_outcome default name whole given callable) (callable_outcome default name' whole' given' callable)
emitted_by default name name' whole whole' given given' None n h = record { text = refl; end = refl }
emitted_by default name name' whole whole' given given' (Some (formatter f)) n h = formatted_alike f name name' given given' h
emitted_by default name name' whole whole' given given' (Some (function f)) n h =
    found_alike One (answer_value name name.span given (f (values_of given))) (answer_value name' name'.span given' (f (values_of given'))) (λ v. format_outcome (default v) whole) (λ v. format_outcome (default v) whole')
    (asked_alike name name' name.span name'.span given given' f n h) (λ v w same. shown_alike default v w whole whole' same)

module _ {V : Type 0} (calls : Calls V) where
  emitted_alike : (name name' : Ident) (whole whole' : Span) (given given' : List Operand) → WordsAlike name name' → SameValues given given' → EmissionsAlike (callable_outcome calls.default_formatter name whole given (calls.callables name.text)) (callable_outcome calls.default_formatter name' whole' given' (calls.callables name'.text))
  emitted_alike name name' whole whole' given given' n h =
      subst (λ t. EmissionsAlike (callable_outcome calls.default_formatter name whole given (calls.callables name.text)) (callable_outcome calls.default_formatter name' whole' given' (calls.callables t))) n
      (emitted_by calls.default_formatter name name' whole whole' given given' (calls.callables name.text) n h)

  emit_found_alike : {A : Type 0} (R : A → A → Type 0) (r r' : Reply V (Finding A)) (go go' : A → Emission) → ReplyAlike R r r' → ((a b : A) → R a b → EmissionsAlike (go a) (go' b)) → OutcomesAlike (emit_found r go) (emit_found r' go')
  emit_found_alike R r r' go go' h k = let o = found_alike R r.answer r'.answer go go' h.answer k in record { text = o.text; end = o.end; next = h.next }

  applied_alike : (name name' : Ident) (whole whole' : Span) (r r' : Reply V (Finding (List Operand))) → WordsAlike name name' → ReplyAlike SameValues r r' → OutcomesAlike (emit_call calls name whole r) (emit_call calls name' whole' r')
  applied_alike name name' whole whole' r r' n h = emit_found_alike SameValues r r' _ _ h (λ os os' same. emitted_alike name name' whole whole' os os' n same)

  plain_alike : (r r' : Reply V (Finding Operand)) → ReplyAlike SameValue r r' → OutcomesAlike (emit_value calls r) (emit_value calls r')
  plain_alike r r' h = emit_found_alike SameValue r r' _ _ h (λ o o' same. shown_alike calls.default_formatter o.value o'.value o.span o'.span same)

  module _ (env : Environment) where
    mutual
      pub emit_alike : (e e' : Expression) → ExpressionsAlike e e' → (q : V) → OutcomesAlike (emit calls e env q) (emit calls e' env q)
      emit_alike (base a) (base b) h q = emit_base_alike a b h q
      emit_alike (filtered receiver name args span) (filtered receiver' name' args' place) h q =
          applied_alike name name' span place _ _ h.1
          (others_alike (evaluate calls receiver env q) (evaluate calls receiver' env q) (evaluate_arguments calls args env) (evaluate_arguments calls args' env) (value_alike calls env receiver receiver' h.0 q) (λ q'. arguments_alike calls env args args' h.2 q'))
      emit_alike _ _ h q = absurd h

      emit_base_alike : (a b : Base) → BaseAlike a b → (q : V) → OutcomesAlike (emit_base calls a env q) (emit_base calls b env q)
      emit_base_alike (paren e span) (paren e' place) h q = emit_alike e e' h q
      emit_base_alike (call name args span) (call name' args' place) h q = applied_alike name name' span place _ _ h.0 (arguments_alike calls env args args' h.1 q)
      emit_base_alike (var first rest) (var first' rest') h q = plain_alike _ _ (base_alike calls env (var first rest) (var first' rest') h q)
      emit_base_alike (literal v span) (literal w place) h q = plain_alike _ _ (base_alike calls env (literal v span) (literal w place) h q)
      emit_base_alike (list bases span) (list bases' place) h q = plain_alike _ _ (base_alike calls env (list bases span) (list bases' place) h q)
      emit_base_alike (mapping items span) (mapping items' place) h q = plain_alike _ _ (base_alike calls env (mapping items span) (mapping items' place) h q)
      emit_base_alike _ _ h q = absurd h
