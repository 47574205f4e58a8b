-- Over a context a template means what it means where there is no value source, and the source's state stays.
use Rattle.std.proofs.Common.{◌≡◌, ℕ, zero, suc, List, [], ◌∷◌, ◌++◌, Option, Some, None, refl, sym, ap, ◌∙◌, Bool, true, false}
use Rattle.upon_types.specs.Expression.{expression_span}
use Rattle.upon_types.specs.Path.{Ident}
use Rattle.upon_types.specs.BlockKinds.{opened_kind, may_have_else}
use Rattle.upon_types.specs.Tree.{Statement, raw, inline_expr, include, block, Statements, no_statements, statement_then, Else, no_else, otherwise}
use Rattle.upon_types.specs.Val.{Val}
use Rattle.upon_lookup.specs.Environment.{Binding, context}
use Rattle.upon_lookup.specs.Finding.{Finding, found, at_fault, Reply}
use Rattle.upon_lookup.specs.Source.{SourceAnswer, says, refuses, Source}
use Rattle.upon_meaning_spec.specs.Alone.{running, on_template, included, alone_within}
use Rattle.upon_meaning_spec.specs.Engine.{Template, Calls, Resolver}
use Rattle.upon_meaning_spec.specs.Evaluation.{Operand}
use Rattle.upon_meaning_spec.specs.Meaning.{RunningTemplate, Inclusion, Body, turns, each, each_or, in_template, on_value, with_value, statement_means, statements_mean, else_means}
use Rattle.upon_meaning_spec.specs.Outcome.{End, good, fails, too_deep, Outcome, States, states, with_text_before, go_on, then_do}
use Rattle.upon_meaning_spec.specs.ValueSource.{with_source, SameBesideValues}
use Rattle.upon_meaning_spec.proofs.UnaskedExpressions.{above, sourceless, keep, evaluate_keeps, emit_keeps}

-- states without a value source
abbrev pub Sourceless : Type 0 → Type 0
Sourceless T = States (Unit {0}) T

-- what came out without a value source, beside the state of one that was not asked
abbrev pub keep_values : {V T : Type 0} → V → Outcome (Sourceless T) → Outcome (States V T)
keep_values q o = record { text = o.text; end = o.end; next = states q o.next.templates }

module _ {V T : Type 0} (q : V) where
  -- two steps that give the same, with a value source's state and without
  abbrev pub Keeps : (States V T → Outcome (States V T)) → (Sourceless T → Outcome (Sourceless T)) → Type 0
  Keeps f pure = (s : Sourceless T) → f (states q s.templates) ≡ keep_values q (pure s)

  by_go_on : (text : List ℕ) (end : End) (s : Sourceless T) (f : States V T → Outcome (States V T)) (pure : Sourceless T → Outcome (Sourceless T)) → Keeps f pure → go_on text end (states q s.templates) f ≡ keep_values q (go_on text end s pure)
  by_go_on text good s f pure h = ap (with_text_before text) (h s)
  by_go_on text (fails x) s f pure h = refl
  by_go_on text too_deep s f pure h = refl

  then_keeps : (a : Outcome (States V T)) (b : Outcome (Sourceless T)) (f : States V T → Outcome (States V T)) (pure : Sourceless T → Outcome (Sourceless T)) → a ≡ keep_values q b → Keeps f pure → then_do a f ≡ keep_values q (then_do b pure)
  then_keeps a b f pure e h = ap (λ a. then_do a f) e ∙ by_go_on b.text b.end b.next f pure h

  by_value : (from : RunningTemplate) (x : Finding Operand) (s : Sourceless T) (f : Val → States V T → Outcome (States V T)) (pure : Val → Sourceless T → Outcome (Sourceless T)) → ((w : Val) → Keeps (f w) (pure w)) → on_value from x (states q s.templates) f ≡ keep_values q (on_value from x s pure)
  by_value from (found o) s f pure h = h o.value s
  by_value from (at_fault x) s f pure h = refl

  value_keeps : (from : RunningTemplate) (templates : T) (r : Reply V (Finding Operand)) (o : Reply (Unit {0}) (Finding Operand)) (f : Val → States V T → Outcome (States V T)) (pure : Val → Sourceless T → Outcome (Sourceless T)) → r ≡ keep q o → ((w : Val) → Keeps (f w) (pure w)) → with_value from templates r f ≡ keep_values q (with_value from templates o pure)
  value_keeps from templates r o f pure e h = ap (λ r. with_value from templates r f) e ∙ by_value from o.answer (states o.next templates) f pure h

  template_keeps : (from : RunningTemplate) (word : Ident) (x : SourceAnswer Template) (s : Sourceless T) (f : Template → States V T → Outcome (States V T)) (pure : Template → Sourceless T → Outcome (Sourceless T)) → ((t : Template) → Keeps (f t) (pure t)) → on_template from word x (states q s.templates) f ≡ keep_values q (on_template from word x s pure)
  template_keeps from word (says t) s f pure h = h t s
  template_keeps from word (refuses x) s f pure h = refl

  module _ (v : Val) where
    -- two bodies that give the same under any bindings over the context
    abbrev pub BodyKeeps : Body (States V T) → Body (Sourceless T) → Type 0
    BodyKeeps body pure = (bindings : List Binding) → Keeps (body (above bindings v)) (pure (above bindings v))

    each_keeps : (body : Body (States V T)) (pure : Body (Sourceless T)) → BodyKeeps body pure → (turns : List (List Binding)) (bindings : List Binding) → Keeps (each body turns (above bindings v)) (each pure turns (above bindings v))
    each_keeps body pure h [] bindings s = refl
    each_keeps body pure h (bs ∷ turns) bindings s =
        let inner : List Binding = bs ++ bindings in then_keeps (body (above inner v) (states q s.templates)) (pure (above inner v) s) _ _ (h inner s) (each_keeps body pure h turns bindings)

    each_or_keeps : (body other : Body (States V T)) (pure another : Body (Sourceless T)) → BodyKeeps body pure → BodyKeeps other another → (from : RunningTemplate) (x : Finding (List (List Binding))) (bindings : List Binding) → Keeps (each_or body other from x (above bindings v)) (each_or pure another from x (above bindings v))
    each_or_keeps body other pure another h k from (found []) bindings s = k bindings s
    each_or_keeps body other pure another h k from (found (bs ∷ turns)) bindings s = each_keeps body pure h (bs ∷ turns) bindings s
    each_or_keeps body other pure another h k from (at_fault x) bindings s = refl

-- includes that give the same over any context
abbrev InclusionKeeps : {V T : Type 0} → V → Inclusion V T → Inclusion (Unit {0}) T → Type 0
InclusionKeeps q i pure = (from : RunningTemplate) (word : Ident) (v : Val) → BodyKeeps q v (i from word) (pure from word)

module _ {V T : Type 0} (calls : Calls V) (i : Inclusion V T) (pure : Inclusion (Unit {0}) T) (q : V) (same : InclusionKeeps q i pure) (run : RunningTemplate) (v : Val) where
  mutual
    statement_keeps : (t : Statement) (bindings : List Binding) (s : Sourceless T) → statement_means calls i run t (above bindings v) (states q s.templates) ≡ keep_values q (statement_means (sourceless calls) pure run t (above bindings v) s)
    statement_keeps (raw span) bindings s = refl
    statement_keeps (inline_expr e span) bindings s = ap (in_template run s.templates) (emit_keeps calls bindings v q e s.values)
    statement_keeps (include word None) bindings s = same run word v bindings s
    statement_keeps (include word (Some e)) bindings s = value_keeps q run s.templates _ _ _ _ (evaluate_keeps calls bindings v q e s.values) (λ w. same run word w [])
    statement_keeps (block opening e body other) bindings s =
        value_keeps q run s.templates _ _ _ _ (evaluate_keeps calls bindings v q e s.values) (λ w. each_or_keeps q v (statements_mean calls i run body) (else_means calls i run other (may_have_else (opened_kind opening))) (statements_mean (sourceless calls) pure run body) (else_means (sourceless calls) pure run other (may_have_else (opened_kind opening))) (statements_keep body) (else_keeps other (may_have_else (opened_kind opening))) run (turns opening (expression_span e) w) bindings)

    statements_keep : (ts : Statements) (bindings : List Binding) (s : Sourceless T) → statements_mean calls i run ts (above bindings v) (states q s.templates) ≡ keep_values q (statements_mean (sourceless calls) pure run ts (above bindings v) s)
    statements_keep no_statements bindings s = refl
    statements_keep (statement_then t ts) bindings s = then_keeps q _ _ _ _ (statement_keeps t bindings s) (statements_keep ts bindings)

    else_keeps : (t : Else) (may : Bool) (bindings : List Binding) (s : Sourceless T) → else_means calls i run t may (above bindings v) (states q s.templates) ≡ keep_values q (else_means (sourceless calls) pure run t may (above bindings v) s)
    else_keeps no_else may bindings s = refl
    else_keeps (otherwise body) false bindings s = refl
    else_keeps (otherwise body) true bindings s = statements_keep body bindings s

module _ {V T : Type 0} (calls : Calls V) (resolve : Resolver T) where
  included_keeps : (left : ℕ) (q : V) → InclusionKeeps q (included calls resolve left) (included (sourceless calls) resolve left)
  included_keeps zero q from word v bindings s = template_keeps q from word (resolve s.templates word.text).answer (states s.values (resolve s.templates word.text).next) _ _ (λ t s'. refl)
  included_keeps (suc left) q from word v bindings s = template_keeps q from word (resolve s.templates word.text).answer (states s.values (resolve s.templates word.text).next) _ _ (λ t. statements_keep calls (included calls resolve left) (included (sourceless calls) resolve left) q (included_keeps left q) (running t (Some word.text)) v t.tree bindings)

  -- a template under any bindings over a context
  pub template_in_keeps : (left : ℕ) (t : Template) (name : Option (List ℕ)) (bindings : List Binding) (v : Val) (s : States V T) → statements_mean calls (included calls resolve left) (running t name) t.tree (above bindings v) s ≡ keep_values s.values (statements_mean (sourceless calls) (included (sourceless calls) resolve left) (running t name) t.tree (above bindings v) (states tt s.templates))
  template_in_keeps left t name bindings v s = statements_keep calls (included calls resolve left) (included (sourceless calls) resolve left) s.values (included_keeps left s.values) (running t name) v t.tree bindings (states tt s.templates)

  pub alone_keeps : (left : ℕ) (t : Template) (name : Option (List ℕ)) (v : Val) (s : States V T) → alone_within calls resolve left t name (context v) s ≡ keep_values s.values (alone_within (sourceless calls) resolve left t name (context v) (states tt s.templates))
  alone_keeps left t name v s = template_in_keeps left t name [] v s

  pub values_stay : (left : ℕ) (t : Template) (name : Option (List ℕ)) (v : Val) (s : States V T) → (alone_within calls resolve left t name (context v) s).next.values ≡ s.values
  values_stay left t name v s = ap (λ o. o.next.values) (alone_keeps left t name v s)

-- another value source, of the same states or of others
pub unasked : {V T : Type 0} (calls : Calls V) (ask : Source V) (resolve : Resolver T) (left : ℕ) (t : Template) (name : Option (List ℕ)) (v : Val) (s : States V T) → alone_within (record calls { ask = ask }) resolve left t name (context v) s ≡ alone_within calls resolve left t name (context v) s
unasked calls ask resolve left t name v s = alone_keeps (record calls { ask = ask }) resolve left t name v s ∙ sym (alone_keeps calls resolve left t name v s)

module _ {V W T : Type 0} (calls : Calls V) (ask : Source W) (resolve : Resolver T) where
  pub replaced : (left : ℕ) (t : Template) (name : Option (List ℕ)) (v : Val) (values : V) (others : W) (templates : T) → SameBesideValues (alone_within calls resolve left t name (context v) (states values templates)) (alone_within (with_source ask calls) resolve left t name (context v) (states others templates))
  replaced left t name v values others templates =
      let one = alone_keeps calls resolve left t name v (states values templates) in
      let other = alone_keeps (with_source ask calls) resolve left t name v (states others templates) in
      record { text = ap (λ o. o.text) one ∙ sym (ap (λ o. o.text) other); end = ap (λ o. o.end) one ∙ sym (ap (λ o. o.end) other); templates = ap (λ o. o.next.templates) one ∙ sym (ap (λ o. o.next.templates) other) }
