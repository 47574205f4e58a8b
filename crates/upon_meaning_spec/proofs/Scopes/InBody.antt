-- What a path in a body finds: the innermost binding of its name, whatever comes before it in the body.
use Rattle.std.proofs.Common.{◌≡◌, ℕ, List, [], Some, refl, ap, ◌∙◌, Bool, true, false}
use Rattle.upon_types.specs.declared.types.Span.{Span}
use Rattle.upon_types.specs.Expression.{Expression, base, var}
use Rattle.upon_types.specs.Path.{Ident, Member, path_span}
use Rattle.upon_types.specs.Tree.{Statement, Statements, inline_expr, include, statement_then, no_else, with}
use Rattle.upon_lookup.specs.Environment.{Bound, Binding, binding, plain, Environment, bind, bind_all, with_name, alone_over}
use Rattle.upon_lookup.specs.Lookup.{bound_value}
use Rattle.upon_meaning_spec.specs.Emission.{emit_value}
use Rattle.upon_meaning_spec.specs.Engine.{Calls}
use Rattle.upon_meaning_spec.specs.Evaluation.{with_span, evaluate}
use Rattle.upon_meaning_spec.specs.Meaning.{RunningTemplate, Inclusion, in_template, with_value, statement_means, statements_mean, else_means}
use Rattle.upon_meaning_spec.specs.Names.{IsName}
use Rattle.upon_meaning_spec.specs.Outcome.{States, then_do}
use Rattle.upon_meaning_spec.specs.Shadowing.{Binds, path_shown}
use Rattle.upon_meaning_spec.proofs.Turns.{with_turn}
use Rattle.upon_meaning_spec.proofs.LoopNames.{innermost_answers}

module _ {V T : Type 0} (calls : Calls V) (include_means : Inclusion V T) (running : RunningTemplate) where
  shown_by : (name : List ℕ) (inside : List Binding) (bound : Bound) (env : Environment) (first : Member) (rest : List Member) (span : Span) (s : States V T) → IsName name first.access → (Binds name inside → ⊥) →
      statement_means calls include_means running (inline_expr (base (var first rest)) span) (bind_all inside (bind (binding name bound) env)) s ≡ path_shown calls running first rest (bound_value bound rest) s
  shown_by name inside bound env first rest span s is none =
      ap (λ r. in_template running s.templates (emit_value calls (with_span r (path_span first rest)))) (innermost_answers calls.ask name inside (binding name bound) env refl none first rest s.values is)

  -- in a body, after any statement and before any others
  pub in_body : (name : List ℕ) (inside : List Binding) (bound : Bound) (env : Environment) (t : Statement) (first : Member) (rest : List Member) (span : Span) (ts : Statements) (s : States V T) → IsName name first.access → (Binds name inside → ⊥) →
      statements_mean calls include_means running (statement_then t (statement_then (inline_expr (base (var first rest)) span) ts)) (bind_all inside (bind (binding name bound) env)) s
      ≡ then_do (statement_means calls include_means running t (bind_all inside (bind (binding name bound) env)) s)
      (λ q. then_do (path_shown calls running first rest (bound_value bound rest) q) (statements_mean calls include_means running ts (bind_all inside (bind (binding name bound) env))))
  in_body name inside bound env t first rest span ts s is none =
      let e = bind_all inside (bind (binding name bound) env) in
      λ i. then_do (statement_means calls include_means running t e s) (λ q. then_do (shown_by name inside bound env first rest span q is none i) (statements_mean calls include_means running ts e))

  -- a whole `with`
  pub in_with : (e : Expression) (word : Ident) (env : Environment) (t : Statement) (first : Member) (rest : List Member) (span : Span) (ts : Statements) (s : States V T) → IsName word.text first.access →
      statement_means calls include_means running (with e word (statement_then t (statement_then (inline_expr (base (var first rest)) span) ts))) env s
      ≡ with_value running s.templates (evaluate calls e env s.values)
      (λ v q. then_do (statement_means calls include_means running t (with_name word v env) q)
      (λ q'. then_do (path_shown calls running first rest (bound_value (plain v) rest) q') (statements_mean calls include_means running ts (with_name word v env))))
  in_with e word env t first rest span ts s is =
      let body : Statements = statement_then t (statement_then (inline_expr (base (var first rest)) span) ts) in
      λ i. with_value running s.templates (evaluate calls e env s.values)
      (λ v q. (with_turn (statements_mean calls include_means running body) (else_means calls include_means running no_else false) running word v env q ∙ in_body word.text [] (plain v) env t first rest span ts q is (λ none. none)) i)

  -- an include with a value, in two environments in which the value is the same
  pub boundary : (word : Ident) (e : Expression) (env env' : Environment) (s : States V T) → evaluate calls e env s.values ≡ evaluate calls e env' s.values →
      statement_means calls include_means running (include word (Some e)) env s ≡ statement_means calls include_means running (include word (Some e)) env' s
  boundary word e env env' s same = ap (λ r. with_value running s.templates r (λ v q. include_means running word (alone_over v) q)) same
