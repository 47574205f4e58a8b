-- What is accepted ends well where includes end well.
use Rattle.std.proofs.Common.{◌≡◌, ℕ, List, [], ◌∷◌, Bool, true, false, Option, Some, None, IfSome, refl, sym, subst}
use Rattle.upon_types.specs.Expression.{Expression, expression_span}
use Rattle.upon_types.specs.Path.{Ident}
use Rattle.upon_types.specs.BlockKinds.{opened_kind, may_have_else}
use Rattle.upon_types.specs.Tree.{Statement, raw, inline_expr, include, block, Statements, no_statements, statement_then, Else, no_else, otherwise}
use Rattle.upon_types.specs.Truth.{truth}
use Rattle.upon_types.specs.Val.{Val}
use Rattle.upon_lookup.specs.Environment.{Binding, Environment, bind_all, alone_over}
use Rattle.upon_lookup.specs.Finding.{Finding, found, at_fault}
use Rattle.upon_meaning_spec.specs.Emission.{emit}
use Rattle.upon_meaning_spec.specs.Engine.{Calls}
use Rattle.upon_meaning_spec.specs.Evaluation.{Operand, evaluate}
use Rattle.upon_meaning_spec.specs.Meaning.{RunningTemplate, ends_in, Inclusion, Body, on_value, turns, each, each_or, statement_means, statements_mean, else_means}
use Rattle.upon_meaning_spec.specs.Outcome.{End, good, fails, too_deep, Outcome, States, states, go_on, then_do}
use Rattle.upon_shape_spec.specs.Accepted.{OnSome, Branches, branches, StatementAccepted, StatementsAccepted, ElseAccepted}
use Rattle.upon_shape_spec.specs.Declared.{Declared, KeepsDeclared}
use Rattle.upon_shape_spec.specs.Ends.{EndsWell}
use Rattle.upon_shape_spec.specs.ExpressionShapes.{expression_shape}
use Rattle.upon_shape_spec.specs.Fits.{Fits}
use Rattle.upon_shape_spec.specs.Found.{Finds, ComesTo}
use Rattle.upon_shape_spec.specs.Narrowed.{true_scope}
use Rattle.upon_shape_spec.specs.Scope.{NameShape, Scope, scope_over, ScopeFits}
use Rattle.upon_shape_spec.specs.Shape.{Shape}
use Rattle.upon_shape_spec.proofs.ExpressionsFit.{expression_comes}
use Rattle.upon_shape_spec.proofs.NarrowedFit.{true_fits}
use Rattle.upon_shape_spec.proofs.BranchesFit.{EachTurnFits, TurnsFit, turns_fit}
use Rattle.upon_shape_spec.proofs.ShownWell.{emission_well}

-- where ends may be so, of which a good one is
module _ (Fine : End → Type 0) (fine : Fine good) where
  go_on_fine : {Q : Type 0} (text : List ℕ) (end : End) (q : Q) (go : Q → Outcome Q) → Fine end → ((q : Q) → Fine (go q).end) → Fine (go_on text end q go).end
  go_on_fine text good q go h k = k q
  go_on_fine text (fails f) q go h k = h
  go_on_fine text too_deep q go h k = h

  then_fine : {Q : Type 0} (o : Outcome Q) (go : Q → Outcome Q) → Fine o.end → ((q : Q) → Fine (go q).end) → Fine (then_do o go).end
  then_fine o go h k = go_on_fine o.text o.end o.next go h k

  shown_fine : (from : RunningTemplate) (end : End) → EndsWell end → Fine (ends_in from end)
  shown_fine from good h = fine
  shown_fine from (fails f) h = absurd h
  shown_fine from too_deep h = absurd h

  -- a value that was found, and what is known of it
  on_value_fine : {V T : Type 0} (from : RunningTemplate) (o : Option Shape) (P : Shape → Type 0) (x : Finding Operand) (s : States V T) (go : Val → States V T → Outcome (States V T)) → ComesTo o x → OnSome o P → ((t : Shape) (a : Operand) → P t → Fits t a.value → x ≡ found a → Fine (go a.value s).end) → Fine (on_value from x s go).end
  on_value_fine from None P x s go h p k = absurd p
  on_value_fine from (Some t) P (found a) s go h p k = k t a p h refl
  on_value_fine from (Some t) P (at_fault f) s go h p k = absurd h

  -- the body in turns that fit its scope, or the other branch in its own
  each_fine : {Q : Type 0} (body : Body Q) (inside : Scope) (env : Environment) → ((env : Environment) (q : Q) → ScopeFits inside env → Fine (body env q).end) → (turns : List (List Binding)) (q : Q) → EachTurnFits inside env turns → Fine (each body turns env q).end
  each_fine body inside env k [] q h = fine
  each_fine body inside env k (bs ∷ turns) q h = then_fine (body (bind_all bs env) q) _ (k (bind_all bs env) q h.0) (λ q'. each_fine body inside env k turns q' h.1)

  turns_fine : {Q : Type 0} (from : RunningTemplate) (body other : Body Q) (o : Option (List NameShape)) (P : List NameShape → Type 0) (inside : List NameShape → Scope) (outside : Scope) (env : Environment) (x : Finding (List (List Binding))) (q : Q) → OnSome o P → IfSome o (λ bs. TurnsFit (inside bs) outside env x) → ((bs : List NameShape) → P bs → (env : Environment) (q : Q) → ScopeFits (inside bs) env → Fine (body env q).end) → (ScopeFits outside env → Fine (other env q).end) → Fine (each_or body other from x env q).end
  turns_fine from body other None P inside outside env x q p h k l = absurd p
  turns_fine from body other (Some bs) P inside outside env (found []) q p h k l = l h
  turns_fine from body other (Some bs) P inside outside env (found (one ∷ turns)) q p h k l = each_fine body (inside bs) env (k bs p) (one ∷ turns) q h
  turns_fine from body other (Some bs) P inside outside env (at_fault f) q p h k l = absurd h

  -- statements, where includes that are accepted end so
  module _ {V T : Type 0} (calls : Calls V) (declared : Declared) (keeps : KeepsDeclared declared calls.callables calls.default_formatter) (Included : List ℕ → Scope → Type 0) (i : Inclusion V T) (from : RunningTemplate) (includes : (word : Ident) (scope : Scope) (env : Environment) (s : States V T) → Included word.text scope → ScopeFits scope env → Fine (i from word env s).end) where
    in_expression : (e : Expression) (P : Shape → Type 0) (scope : Scope) (env : Environment) (s : States V T) (go : Val → States V T → Outcome (States V T)) → ScopeFits scope env → OnSome (expression_shape declared scope e) P → ((t : Shape) (a : Operand) (s' : States V T) → P t → Fits t a.value → (evaluate calls e env s.values).answer ≡ found a → Fine (go a.value s').end) → Fine (on_value from (evaluate calls e env s.values).answer (states (evaluate calls e env s.values).next s.templates) go).end
    in_expression e P scope env s go fits p k =
        let r = evaluate calls e env s.values in
        let s' = states r.next s.templates in
        on_value_fine from (expression_shape declared scope e) P r.answer s' go (expression_comes calls declared keeps scope env fits e s.values) p (λ t a x y z. k t a s' x y z)

    found_true : (e : Expression) (scope : Scope) (env : Environment) (q : V) (a : Operand) → ScopeFits scope env → (evaluate calls e env q).answer ≡ found a → truth a.value ≡ true → ScopeFits (true_scope e scope) env
    found_true e scope env q a fits is t = true_fits calls scope env e q fits (subst (λ (x : Finding Operand). Finds (λ (o : Operand). truth o.value ≡ true) x) (sym is) t)

    mutual
      statement_fine : (t : Statement) (scope : Scope) (env : Environment) (s : States V T) → StatementAccepted declared Included scope t → ScopeFits scope env → Fine (statement_means calls i from t env s).end
      statement_fine (raw span) scope env s h fits = fine
      statement_fine (inline_expr e span) scope env s h fits = shown_fine from (emit calls e env s.values).end (emission_well calls declared keeps scope env fits e s.values h)
      statement_fine (include word None) scope env s h fits = includes word scope env s h fits
      statement_fine (include word (Some e)) scope env s h fits =
          in_expression e (λ t. Included word.text (scope_over t)) scope env s _ fits h (λ t a s' x y z. includes word (scope_over t) (alone_over a.value) s' x (λ name. tt, y))
      statement_fine (block opening e body other) scope env s h fits =
          let b : Branches = branches opening e scope in
          let may : Bool = may_have_else (opened_kind opening) in
          in_expression e (λ t. OnSome (b.names t) (λ bs. StatementsAccepted declared Included (b.body bs) body) × ElseAccepted declared Included b.other may other) scope env s _ fits h
          (λ t a s' x y z. turns_fine from (statements_mean calls i from body) (else_means calls i from other may) (b.names t) (λ bs. StatementsAccepted declared Included (b.body bs) body) b.body b.other env (turns opening (expression_span e) a.value) s' x.0
          (turns_fit scope env fits opening e t a.value (expression_span e) y (found_true e scope env s.values a fits z))
          (λ bs p env' q k. statements_fine body (b.body bs) env' q p k) (λ k. else_fine other may b.other env s' x.1 k))

      pub statements_fine : (ts : Statements) (scope : Scope) (env : Environment) (s : States V T) → StatementsAccepted declared Included scope ts → ScopeFits scope env → Fine (statements_mean calls i from ts env s).end
      statements_fine no_statements scope env s h fits = fine
      statements_fine (statement_then t ts) scope env s h fits = then_fine (statement_means calls i from t env s) _ (statement_fine t scope env s h.0 fits) (λ s'. statements_fine ts scope env s' h.1 fits)

      else_fine : (t : Else) (may : Bool) (scope : Scope) (env : Environment) (s : States V T) → ElseAccepted declared Included scope may t → ScopeFits scope env → Fine (else_means calls i from t may env s).end
      else_fine no_else may scope env s h fits = fine
      else_fine (otherwise body) false scope env s h fits = fine
      else_fine (otherwise body) true scope env s h fits = statements_fine body scope env s h fits
