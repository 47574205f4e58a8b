-- `not` turns the branches of an `if` round.
use Rattle.std.proofs.Common.{◌≡◌, [], ◌∷◌, true, false, refl, sym, ap, ◌∙◌, not}
use Rattle.upon_types.specs.Expression.{Expression}
use Rattle.upon_types.specs.Tree.{if_else, Statements, otherwise}
use Rattle.upon_types.specs.Val.{Val}
use Rattle.upon_lookup.specs.Environment.{Environment}
use Rattle.upon_lookup.specs.Finding.{Finding, found, at_fault}
use Rattle.upon_types.specs.Truth.{truth}
use Rattle.upon_meaning_spec.specs.Engine.{Calls}
use Rattle.upon_meaning_spec.specs.Evaluation.{Operand, evaluate}
use Rattle.upon_meaning_spec.specs.Meaning.{RunningTemplate, Inclusion, choose, condition, each_or, on_value, statement_means, statements_mean}
use Rattle.upon_meaning_spec.specs.Outcome.{Outcome, States, states}
use Rattle.upon_meaning_spec.proofs.Turns.{if_turns}

choose_negated : {A : Type 0} (v : Val) (a b : A) → choose (condition true v) a b ≡ choose (condition false v) b a
choose_negated v a b = elim (truth v) as (λ t. choose (choose true (not t) t) a b ≡ choose (choose false (not t) t) b a) [ true ↦ refl | false ↦ refl ]

module _ {V T : Type 0} (calls : Calls V) (include_means : Inclusion V T) (running : RunningTemplate) where
  pub negated_condition : (e : Expression) (a b : Statements) (env : Environment) (s : States V T) → statement_means calls include_means running (if_else true e a (otherwise b)) env s ≡ statement_means calls include_means running (if_else false e b (otherwise a)) env s
  negated_condition e a b env s = by (evaluate calls e env s.values).answer (evaluate calls e env s.values).next
    where
      means : Statements → Environment → States V T → Outcome (States V T)
      means ts = statements_mean calls include_means running ts

      turned : (v : Val) (s : States V T) → each_or (means a) (means b) running (found (choose (condition true v) ([] ∷ []) [])) env s ≡ each_or (means b) (means a) running (found (choose (condition false v) ([] ∷ []) [])) env s
      turned v s =
          if_turns (means a) (means b) running (condition true v) env s
          ∙ ap (λ (f : States V T → Outcome (States V T)). f s) (choose_negated v (means a env) (means b env))
          ∙ sym (if_turns (means b) (means a) running (condition false v) env s)

      by : (f : Finding Operand) (q : V) → on_value running f (states q s.templates) (λ v s'. each_or (means a) (means b) running (found (choose (condition true v) ([] ∷ []) [])) env s') ≡ on_value running f (states q s.templates) (λ v s'. each_or (means b) (means a) running (found (choose (condition false v) ([] ∷ []) [])) env s')
      by (found o) q = turned o.value (states q s.templates)
      by (at_fault f) q = refl
