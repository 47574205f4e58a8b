-- A rendering ends well, because includes are nested too deep, or with one of the stated faults, at an offset of the template that runs.
use Rattle.std.proofs.Common.{◌≡◌, ℕ, zero, suc, List, [], ◌∷◌, Option, Some, None, Bool, true, false, refl, ap, option_map}
use Rattle.upon_types.specs.declared.types.Span.{Span}
use Rattle.upon_types.specs.Expression.{Expression, expression_span}
use Rattle.upon_types.specs.Fault.{render, Fault}
use Rattle.upon_types.specs.Path.{Ident, LoopVars, item, key_value}
use Rattle.upon_types.specs.Picture.{picture}
use Rattle.upon_types.specs.BlockKinds.{Opening, opened_kind, may_have_else, LoopNamesSpans, OpeningSpans}
use Rattle.upon_types.specs.Tree.{Statement, raw, inline_expr, include, block, Statements, no_statements, statement_then, Else, no_else, otherwise}
use Rattle.upon_types.specs.TreeSpans.{ExpressionSpans, StatementSpans, StatementsSpans, ElseSpans}
use Rattle.upon_types.specs.Val.{Val, none_val, bool_val, int_val, text_val, list_val, map_val}
use Rattle.upon_types.proofs.ExpressionSpans.{Covers, expression_place}
use Rattle.upon_lookup.specs.Environment.{Binding, Environment, Root, root_environment, alone_over, bind_all}
use Rattle.upon_lookup.specs.Finding.{Finding, found, at_fault}
use Rattle.upon_lookup.specs.Items.{items_of}
use Rattle.upon_lookup.specs.Source.{SourceAnswer, says, refuses}
use Rattle.upon_meaning_spec.specs.Alone.{running, on_template, included, alone_within}
use Rattle.upon_meaning_spec.specs.Emission.{emit}
use Rattle.upon_meaning_spec.specs.Engine.{Template, Calls, Resolver}
use Rattle.upon_meaning_spec.specs.Evaluation.{Operand, evaluate}
use Rattle.upon_meaning_spec.specs.Meaning.{RunningTemplate, fault_in, ends_in, Inclusion, Body, turns_over, turns, each, each_or, on_value, statement_means, statements_mean, else_means}
use Rattle.upon_meaning_spec.specs.Outcome.{End, good, fails, too_deep, Outcome, States, states, go_on, then_do}
use Rattle.upon_meaning_spec.specs.RenderFaults.{IsStated, list_item_into_two, map_item_into_one, not_iterable, template_refused, Runs, itself, EndStated}
use Rattle.upon_meaning_spec.specs.RenderFaults.{included as of_include}
use Rattle.upon_meaning_spec.proofs.Turns.{turns_hold}
use Rattle.upon_meaning_spec.proofs.FaultsStated.Emissions.{EndFine, emission_fine}
use Rattle.upon_meaning_spec.proofs.FaultsStated.Expressions.{AtSpan, expression_fine}
use Rattle.upon_meaning_spec.proofs.FaultsStated.Lookups.{Any, IsFine, FoundFine, wrong_fine}

module _ {V T : Type 0} (calls : Calls V) (resolve : Resolver T) where
  -- the items of a loop
  pub items_fine : (P : Span → Type 0) (names : LoopVars) (v : Val) (at : Span) → LoopNamesSpans P names → P at → FoundFine calls resolve P Any (items_of names v at)
  items_fine P (item name) (list_val vs) at h k = tt
  items_fine P (item name) (map_val es) at h k = wrong_fine calls resolve P _ name.span map_item_into_one h
  items_fine P (item name) none_val at h k = wrong_fine calls resolve P _ at (not_iterable none_val) k
  items_fine P (item name) (bool_val b) at h k = wrong_fine calls resolve P _ at (not_iterable (bool_val b)) k
  items_fine P (item name) (int_val z) at h k = wrong_fine calls resolve P _ at (not_iterable (int_val z)) k
  items_fine P (item name) (text_val s) at h k = wrong_fine calls resolve P _ at (not_iterable (text_val s)) k
  items_fine P (key_value key value both) (map_val es) at h k = tt
  items_fine P (key_value key value both) (list_val vs) at h k = wrong_fine calls resolve P _ both list_item_into_two h.2
  items_fine P (key_value key value both) none_val at h k = wrong_fine calls resolve P _ at (not_iterable none_val) k
  items_fine P (key_value key value both) (bool_val b) at h k = wrong_fine calls resolve P _ at (not_iterable (bool_val b)) k
  items_fine P (key_value key value both) (int_val z) at h k = wrong_fine calls resolve P _ at (not_iterable (int_val z)) k
  items_fine P (key_value key value both) (text_val s) at h k = wrong_fine calls resolve P _ at (not_iterable (text_val s)) k

  turns_over_fine : (P : Span → Type 0) (x : Finding (List (List Binding))) → FoundFine calls resolve P Any x → FoundFine calls resolve P Any (turns_over x)
  turns_over_fine P (found items) h = tt
  turns_over_fine P (at_fault f) h = h

  -- the turns of a block
  turns_fine : (P : Span → Type 0) (opening : Opening) (v : Val) (at : Span) → OpeningSpans P opening → P at → FoundFine calls resolve P Any (turns opening at v)
  turns_fine P opening v at h k = turns_hold P (FoundFine calls resolve P Any) opening v at h (λ names spans. turns_over_fine P (items_of names v at) (items_fine P names v at spans k)) (λ all. tt)

  module _ (Lies : List ℕ → Span → Type 0) (covers : (source : List ℕ) → Covers (Lies source)) (top : Template) (top_name : Option (List ℕ)) where
    abbrev Stated : End → Type 0
    Stated end = EndStated calls resolve top top_name Lies end

    told_stated : (from : RunningTemplate) → Runs resolve top top_name from → (f : Fault) → IsFine calls resolve (Lies from.source) f → Stated (fails (fault_in from f))
    told_stated from runs f h = (from, runs, record { stated = h.stated; name = refl; span = h.span; placed = h.placed; lies = h.lies; picture = ap (option_map (picture from.source)) h.placed })

    end_stated : (from : RunningTemplate) → Runs resolve top top_name from → (end : End) → EndFine calls resolve (Lies from.source) end → Stated (ends_in from end)
    end_stated from runs good h = tt
    end_stated from runs (fails f) h = told_stated from runs f h
    end_stated from runs too_deep h = tt

    go_on_stated : {Q : Type 0} (text : List ℕ) (end : End) (q : Q) (go : Q → Outcome Q) → Stated end → ((q : Q) → Stated (go q).end) → Stated (go_on text end q go).end
    go_on_stated text good q go h k = k q
    go_on_stated text (fails f) q go h k = h
    go_on_stated text too_deep q go h k = tt

    then_stated : {Q : Type 0} (o : Outcome Q) (go : Q → Outcome Q) → Stated o.end → ((q : Q) → Stated (go q).end) → Stated (then_do o go).end
    then_stated o go h k = go_on_stated o.text o.end o.next go h k

    each_stated : {Q : Type 0} (body : Body Q) → ((env : Environment) (q : Q) → Stated (body env q).end) → (turns : List (List Binding)) (env : Environment) (q : Q) → Stated (each body turns env q).end
    each_stated body h [] env q = tt
    each_stated body h (bs ∷ turns) env q = then_stated (body (bind_all bs env) q) _ (h (bind_all bs env) q) (each_stated body h turns env)

    template_stated : {Q : Type 0} (from : RunningTemplate) → Runs resolve top top_name from → (word : Ident) → Lies from.source word.span → (x : SourceAnswer Template) (q : Q) (go : Template → Q → Outcome Q) → ((text : List ℕ) → x ≡ refuses text → IsStated calls resolve render (Some text)) → ((t : Template) → x ≡ says t → Stated (go t q).end) → Stated (on_template from word x q go).end
    template_stated from runs word lies (says t) q go h k = k t refl
    template_stated from runs word lies (refuses text) q go h k = told_stated from runs _ (wrong_fine calls resolve (Lies from.source) text word.span (h text refl) lies)

    -- statements, where includes end so
    module _ (from : RunningTemplate) (runs : Runs resolve top top_name from) (i : Inclusion V T) (h : (word : Ident) → Lies from.source word.span → (env : Environment) (s : States V T) → Stated (i from word env s).end) where
      value_stated : (x : Finding Operand) (s : States V T) (go : Val → States V T → Outcome (States V T)) → FoundFine calls resolve (Lies from.source) (AtSpan calls resolve (Lies from.source)) x → ((v : Val) (s : States V T) → Stated (go v s).end) → Stated (on_value from x s go).end
      value_stated (found o) s go x k = k o.value s
      value_stated (at_fault f) s go x k = told_stated from runs f x

      each_or_stated : (body other : Body (States V T)) → ((env : Environment) (s : States V T) → Stated (body env s).end) → ((env : Environment) (s : States V T) → Stated (other env s).end) → (x : Finding (List (List Binding))) (env : Environment) (s : States V T) → FoundFine calls resolve (Lies from.source) Any x → Stated (each_or body other from x env s).end
      each_or_stated body other k l (found []) env s x = l env s
      each_or_stated body other k l (found (bs ∷ turns)) env s x = each_stated body k (bs ∷ turns) env s
      each_or_stated body other k l (at_fault f) env s x = told_stated from runs f x

      in_expression : (e : Expression) (env : Environment) (s : States V T) (go : Val → States V T → Outcome (States V T)) → ExpressionSpans (Lies from.source) e → ((v : Val) (s : States V T) → Stated (go v s).end) → Stated (on_value from (evaluate calls e env s.values).answer (states (evaluate calls e env s.values).next s.templates) go).end
      in_expression e env s go x k = value_stated (evaluate calls e env s.values).answer _ go (expression_fine calls resolve (Lies from.source) (covers from.source) env e s.values x) k

      mutual
        statement_stated : (t : Statement) → StatementSpans (Lies from.source) t → (env : Environment) (s : States V T) → Stated (statement_means calls i from t env s).end
        statement_stated (raw span) x env s = tt
        statement_stated (inline_expr e span) x env s = end_stated from runs (emit calls e env s.values).end (emission_fine calls resolve (Lies from.source) (covers from.source) env e s.values x.0)
        statement_stated (include word None) x env s = h word x.0 env s
        statement_stated (include word (Some e)) x env s = in_expression e env s _ x.1 (λ v s'. h word x.0 (alone_over v) s')
        statement_stated (block opening e body other) x env s =
            in_expression e env s _ x.1
            (λ v s'. each_or_stated (statements_mean calls i from body) (else_means calls i from other (may_have_else (opened_kind opening))) (statements_stated body x.2) (else_stated other (may_have_else (opened_kind opening)) x.3) (turns opening (expression_span e) v) env s' (turns_fine (Lies from.source) opening v (expression_span e) x.0 (expression_place (Lies from.source) (covers from.source) e x.1)))

        statements_stated : (ts : Statements) → StatementsSpans (Lies from.source) ts → (env : Environment) (s : States V T) → Stated (statements_mean calls i from ts env s).end
        statements_stated no_statements x env s = tt
        statements_stated (statement_then t ts) x env s = then_stated (statement_means calls i from t env s) _ (statement_stated t x.0 env s) (statements_stated ts x.1 env)

        else_stated : (t : Else) (may : Bool) → ElseSpans (Lies from.source) t → (env : Environment) (s : States V T) → Stated (else_means calls i from t may env s).end
        else_stated no_else may x env s = tt
        else_stated (otherwise body) false x env s = tt
        else_stated (otherwise body) true x env s = statements_stated body x env s

    -- includes, where the spans in the trees of all templates that answer are so
    module _ (lie : (q : T) (name : List ℕ) (t : Template) → (resolve q name).answer ≡ says t → StatementsSpans (Lies t.source) t.tree) where
      included_stated : (left : ℕ) (from : RunningTemplate) → Runs resolve top top_name from → (word : Ident) → Lies from.source word.span → (env : Environment) (s : States V T) → Stated (included calls resolve left from word env s).end
      included_stated zero from runs word lies env s =
          let r = resolve s.templates word.text in
          template_stated from runs word lies r.answer (states s.values r.next) _ (λ text e. template_refused s.templates word.text text e) (λ t e. tt)
      included_stated (suc left) from runs word lies env s =
          let r = resolve s.templates word.text in
          template_stated from runs word lies r.answer (states s.values r.next) _ (λ text e. template_refused s.templates word.text text e)
          (λ t e. let inner = running t (Some word.text) in let inner_runs = of_include s.templates word.text t e in statements_stated inner inner_runs (included calls resolve left) (included_stated left inner inner_runs) t.tree (lie s.templates word.text t e) env (states s.values r.next))

      pub alone_stated : StatementsSpans (Lies top.source) top.tree → (left : ℕ) (root : Root) (s : States V T) → Stated (alone_within calls resolve left top top_name root s).end
      alone_stated x left root s = statements_stated (running top top_name) itself (included calls resolve left) (included_stated left (running top top_name) itself) top.tree x (root_environment root) s
