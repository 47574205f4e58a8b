-- An expression that comes to no value ends with one of the stated faults, at an offset of the expression; its value's span is one too.
use Rattle.std.proofs.Common.{◌≡◌, ℕ, zero, suc, List, [], ◌∷◌, length, Option, Some, None, refl}
use Rattle.std.specs.Prelude.{slice_get}
use Rattle.upon_types.specs.declared.types.Span.{Span}
use Rattle.upon_types.specs.Answers.{Misfit, Answer, gives, wrong_number, wrong_argument, declines, Callable, formatter, function}
use Rattle.upon_types.specs.Answers.{wrong_type as of_type, out_of_range as of_range}
use Rattle.upon_types.specs.Expression.{Expression, base, filtered, Base, var, literal, list, mapping, paren, call, Bases, no_bases, base_then, Items, no_items, item_then, Arguments, no_arguments, arguments}
use Rattle.upon_types.specs.Path.{Ident, path_span}
use Rattle.upon_types.specs.TreeSpans.{ExpressionSpans, BaseSpans, BasesSpans, ItemsSpans, ArgumentsSpans}
use Rattle.upon_types.specs.Val.{Val, Entries, no_entries}
use Rattle.upon_types.proofs.ExpressionSpans.{Covers, path_place}
use Rattle.upon_lookup.specs.Environment.{Environment}
use Rattle.upon_lookup.specs.Finding.{Finding, found, at_fault, Reply, reply, on_found}
use Rattle.upon_lookup.specs.Lookup.{lookup}
use Rattle.upon_meaning_spec.specs.Engine.{Calls, Resolver}
use Rattle.upon_meaning_spec.specs.Entries.{with_entry}
use Rattle.upon_meaning_spec.specs.Evaluation.{Operand, values_of, misfit_at, answer_value, call_value, with_span, prepend, append_operand, as_list, as_map, application, evaluate, evaluate_base, evaluate_bases, evaluate_items, evaluate_arguments}
use Rattle.upon_meaning_spec.specs.RenderFaults.{EachSpan, unknown_function, formatter_found, function_expects, wrong_type, out_of_range, declined, no_argument}
use Rattle.upon_meaning_spec.proofs.FaultsStated.Lookups.{Any, IsFine, FoundFine, wrong_fine, lookup_fine}

module _ {V T : Type 0} (calls : Calls V) (resolve : Resolver T) (P : Span → Type 0) where
  -- it holds of a value's span
  abbrev pub AtSpan : Operand → Type 0
  AtSpan o = P o.span

  abbrev Fine : {A : Type 0} → (A → Type 0) → Finding A → Type 0
  Fine Q x = FoundFine calls resolve P Q x

  -- ---- what functions answer
  abbrev Given : Option Operand → Type 0
  Given None = Unit {0}
  Given (Some o) = P o.span

  given_at : (given : List Operand) (i : ℕ) → EachSpan P given → Given (slice_get given i)
  given_at [] i h = tt
  given_at (o ∷ given) zero h = h.0
  given_at (o ∷ given) (suc i) h = given_at given i h.1

  misfit_fine : (name : Ident) (f : List Val → Answer) (given : List Operand) (i : ℕ) (misfit : Misfit) (o : Option Operand) (whole : Span) → calls.callables name.text ≡ Some (function f) → f (values_of given) ≡ wrong_argument i misfit → slice_get given i ≡ o → Given o → P whole → IsFine calls resolve P (misfit_at name misfit o whole)
  misfit_fine name f given i (of_type word) (Some o) whole is e at h k = wrong_fine calls resolve P _ o.span (wrong_type name.text word o.value) h
  misfit_fine name f given i (of_range word) (Some o) whole is e at h k = wrong_fine calls resolve P _ o.span (out_of_range name.text word o.value) h
  misfit_fine name f given i misfit None whole is e at h k = record { stated = no_argument name.text f given i misfit is e at; span = whole; placed = refl; lies = k }

  pub answered_fine : (name : Ident) (whole : Span) (given : List Operand) (f : List Val → Answer) (a : Answer) → calls.callables name.text ≡ Some (function f) → f (values_of given) ≡ a → EachSpan P given → P whole → Fine Any (answer_value name whole given a)
  answered_fine name whole given f (gives v) is e h k = tt
  answered_fine name whole given f (wrong_number n) is e h k = wrong_fine calls resolve P _ whole (function_expects n (length given)) k
  answered_fine name whole given f (wrong_argument i misfit) is e h k = misfit_fine name f given i misfit (slice_get given i) whole is e refl (given_at given i h) k
  answered_fine name whole given f (declines text) is e h k = record { stated = declined name.text f (values_of given) text is e; span = whole; placed = refl; lies = k }

  called_by : (name : Ident) (whole : Span) (given : List Operand) (callable : Option Callable) → calls.callables name.text ≡ callable → EachSpan P given → P name.span → P whole → Fine Any (call_value name whole given callable)
  called_by name whole given None is h n k = wrong_fine calls resolve P _ name.span unknown_function n
  called_by name whole given (Some (formatter f)) is h n k = wrong_fine calls resolve P _ name.span formatter_found n
  called_by name whole given (Some (function f)) is h n k = answered_fine name whole given f (f (values_of given)) is refl h k

  pub called_fine : (name : Ident) (whole : Span) (given : List Operand) → EachSpan P given → P name.span → P whole → Fine Any (call_value name whole given (calls.callables name.text))
  called_fine name whole given h n k = called_by name whole given (calls.callables name.text) refl h n k

  -- ---- one and then another
  found_then : {A B : Type 0} (Q : A → Type 0) (R : B → Type 0) (x : Finding A) (q : V) (go : A → V → Reply V (Finding B)) → Fine Q x → ((a : A) → Q a → Fine R (go a q).answer) → Fine R (on_found x q go).answer
  found_then Q R (found a) q go h k = k a h
  found_then Q R (at_fault f) q go h k = h

  placed_fine : (r : Reply V (Finding Val)) (at : Span) → Fine Any r.answer → P at → Fine AtSpan (with_span r at).answer
  placed_fine r at h k = found_then Any AtSpan r.answer r.next _ h (λ v x. k)

  ahead_fine : (o : Operand) (r : Reply V (Finding (List Operand))) → P o.span → Fine (EachSpan P) r.answer → Fine (EachSpan P) (prepend o r).answer
  ahead_fine o r h k = found_then (EachSpan P) (EachSpan P) r.answer r.next _ k (λ os x. (h, x))

  pub then_fine : (r : Reply V (Finding Operand)) (others : V → Reply V (Finding (List Operand))) → Fine AtSpan r.answer → ((q : V) → Fine (EachSpan P) (others q).answer) → Fine (EachSpan P) (append_operand r others).answer
  then_fine r others h k = found_then AtSpan (EachSpan P) r.answer r.next _ h (λ o x. ahead_fine o (others r.next) x (k r.next))

  as_list_fine : (r : Reply V (Finding (List Operand))) (at : Span) → Fine (EachSpan P) r.answer → P at → Fine AtSpan (as_list r at).answer
  as_list_fine r at h k = found_then (EachSpan P) AtSpan r.answer r.next _ h (λ os x. k)

  as_map_fine : (r : Reply V (Finding Entries)) (at : Span) → Fine Any r.answer → P at → Fine AtSpan (as_map r at).answer
  as_map_fine r at h k = found_then Any AtSpan r.answer r.next _ h (λ es x. k)

  applied_fine : (name : Ident) (whole : Span) (r : Reply V (Finding (List Operand))) → Fine (EachSpan P) r.answer → P name.span → P whole → Fine AtSpan (application calls name whole r).answer
  applied_fine name whole r h n k =
      found_then (EachSpan P) AtSpan r.answer r.next _ h
      (λ os x. placed_fine (reply (call_value name whole os (calls.callables name.text)) r.next) whole (called_fine name whole os x n k) k)

  module _ (covers : Covers P) (env : Environment) where
    mutual
      pub expression_fine : (e : Expression) (q : V) → ExpressionSpans P e → Fine AtSpan (evaluate calls e env q).answer
      expression_fine (base b) q h = base_fine b q h
      expression_fine (filtered receiver name args span) q h =
          applied_fine name span (append_operand (evaluate calls receiver env q) (evaluate_arguments calls args env))
          (then_fine (evaluate calls receiver env q) (evaluate_arguments calls args env) (expression_fine receiver q h.0) (λ q'. arguments_fine args q' h.2)) h.1 h.3

      pub base_fine : (b : Base) (q : V) → BaseSpans P b → Fine AtSpan (evaluate_base calls b env q).answer
      base_fine (var first rest) q h = placed_fine (lookup calls.ask env first rest q) (path_span first rest) (lookup_fine calls resolve P covers env first rest q h.0 h.1) (path_place P covers first rest h.0 h.1)
      base_fine (literal v span) q h = h
      base_fine (list bases span) q h = as_list_fine (evaluate_bases calls bases env q) span (bases_fine bases q h.0) h.1
      base_fine (mapping items span) q h = as_map_fine (evaluate_items calls items no_entries env q) span (items_fine items no_entries q h.0) h.1
      base_fine (paren e span) q h = expression_fine e q h.0
      base_fine (call name args span) q h = applied_fine name span (evaluate_arguments calls args env q) (arguments_fine args q h.1) h.0 h.2

      bases_fine : (bs : Bases) (q : V) → BasesSpans P bs → Fine (EachSpan P) (evaluate_bases calls bs env q).answer
      bases_fine no_bases q h = tt
      bases_fine (base_then b bs) q h = then_fine (evaluate_base calls b env q) (evaluate_bases calls bs env) (base_fine b q h.0) (λ q'. bases_fine bs q' h.1)

      items_fine : (items : Items) (es : Entries) (q : V) → ItemsSpans P items → Fine Any (evaluate_items calls items es env q).answer
      items_fine no_items es q h = tt
      items_fine (item_then key b items) es q h =
          let r = evaluate_base calls b env q in
          found_then AtSpan Any r.answer r.next _ (base_fine b q h.1) (λ o x. items_fine items (with_entry key.text o.value es) r.next h.2)

      pub arguments_fine : (args : Arguments) (q : V) → ArgumentsSpans P args → Fine (EachSpan P) (evaluate_arguments calls args env q).answer
      arguments_fine no_arguments q h = tt
      arguments_fine (arguments bases span) q h = bases_fine bases q h.0
