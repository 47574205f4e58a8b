-- A tree of before means today what it meant, where its includes do.
use Rattle.std.proofs.Common.{◌≡◌, ℕ, zero, suc, ◌+◌, List, [], ◌∷◌, length, true, Option, Some, None, inl, inr, refl, sym, ap, ◌∙◌, subst}
use Rattle.upon_types.specs.Expression.{expression_span}
use Rattle.upon_types.specs.Path.{Ident}
use Rattle.upon_lookup.specs.Environment.{Binding, Environment, Root, root_environment, alone_over, with_name, iteration}
use Rattle.upon_lookup.specs.Finding.{Finding, found, at_fault}
use Rattle.upon_lookup.specs.Items.{items_of}
use Rattle.upon_lookup.specs.Source.{SourceAnswer, says, refuses}
use Rattle.upon_meaning_spec.specs.Alone.{included, running, on_template, with_template, alone_within}
use Rattle.upon_meaning_spec.specs.Engine.{Template, Calls, Resolver}
use Rattle.upon_meaning_spec.specs.Evaluation.{evaluate}
use Rattle.upon_meaning_spec.specs.Includes.{StatementIncludes, Includes, ElseIncludes}
use Rattle.upon_meaning_spec.specs.Meaning.{RunningTemplate, Inclusion, Body, with_value, choose, condition, loop_turns, turns_over, each, each_or, statement_means, statements_mean, else_means}
use Rattle.upon_meaning_spec.specs.Outcome.{Outcome, States, states, text_outcome, then_do, too_deep_outcome}
use Rattle.upon_meaning_spec.proofs.Turns.{if_turns, with_turn}
use Rattle.upon_before_spec.specs.Tree.{Statement as StatementBefore, raw as raw_before, inline_expr as inline_before, include as include_before, if_else as if_before, for_loop as for_before, with as with_before, Statements as StatementsBefore, no_statements as none_before, statement_then as then_before, Else as ElseBefore, no_else as no_else_before, otherwise as otherwise_before}
use Rattle.upon_before_spec.specs.Meaning.{each as each_before, each_of, statement_means as statement_meant, statements_mean as statements_meant, else_means as else_meant}
use Rattle.upon_before_spec.specs.Alone.{Template as TemplateBefore, Resolver as ResolverBefore, running as running_before, on_template as on_template_before, included as included_before, alone_within as alone_within_before}
use Rattle.upon_before_spec.specs.Now.{statement_now, statements_now, else_now, template_now, answer_now}
use Rattle.upon_before_spec.specs.Kept.{IncludesOnly, AnswersAlike}

-- a loop without another branch
module _ {Q : Type 0} (body meant : Body Q) (same : (env : Environment) (q : Q) → body env q ≡ meant env q) where
  turns_kept : (count index : ℕ) (items : List (List Binding)) (env : Environment) (q : Q) → each body (loop_turns count index items) env q ≡ each_before meant count index items env q
  turns_kept count index [] env q = refl
  turns_kept count index (bs ∷ items) env q = λ k. then_do (same (iteration index count bs env) q k) (λ q'. turns_kept count (index + 1) items env q' k)

  loop_kept : (from : RunningTemplate) (x : Finding (List (List Binding))) (env : Environment) (q : Q) → each_or body (λ e r. text_outcome [] r) from (turns_over x) env q ≡ each_of meant from x env q
  loop_kept from (found []) env q = refl
  loop_kept from (found (bs ∷ items)) env q = turns_kept (length (bs ∷ items)) 0 (bs ∷ items) env q
  loop_kept from (at_fault f) env q = refl

-- statements, where includes of their names mean what they meant
module _ {V T : Type 0} (calls : Calls V) (run : RunningTemplate) (i j : Inclusion V T) where
  abbrev Same : List ℕ → Type 0
  Same name = (word : Ident) → word.text ≡ name → (env : Environment) (s : States V T) → i run word env s ≡ j run word env s

  mutual
    statement_kept : (t : StatementBefore) → ((name : List ℕ) → StatementIncludes name (statement_now t) → Same name) → (env : Environment) (s : States V T) → statement_means calls i run (statement_now t) env s ≡ statement_meant calls j run t env s
    statement_kept (raw_before span) h env s = refl
    statement_kept (inline_before e span) h env s = refl
    statement_kept (include_before word None) h env s = h word.text refl word refl env s
    statement_kept (include_before word (Some e)) h env s = λ k. with_value run s.templates (evaluate calls e env s.values) (λ v s'. h word.text refl word refl (alone_over v) s' k)
    statement_kept (if_before negated e body other) h env s =
        λ k. with_value run s.templates (evaluate calls e env s.values)
        (λ v s'. (if_turns (statements_mean calls i run (statements_now body)) (else_means calls i run (else_now other) true) run (condition negated v) env s'
        ∙ (λ m. choose {A = States V T → Outcome (States V T)} (condition negated v) (λ z. statements_kept body (λ name is. h name (inl is)) env z m) (λ z. else_kept other (λ name is. h name (inr is)) env z m) s')) k)
    statement_kept (for_before names e body) h env s =
        λ k. with_value run s.templates (evaluate calls e env s.values)
        (λ v s'. loop_kept (statements_mean calls i run (statements_now body)) (statements_meant calls j run body) (statements_kept body (λ name is. h name (inl is))) run (items_of names v (expression_span e)) env s' k)
    statement_kept (with_before e word body) h env s =
        λ k. with_value run s.templates (evaluate calls e env s.values)
        (λ v s'. (with_turn (statements_mean calls i run (statements_now body)) (λ e' r. text_outcome [] r) run word v env s' ∙ statements_kept body (λ name is. h name (inl is)) (with_name word v env) s') k)

    pub statements_kept : (ts : StatementsBefore) → ((name : List ℕ) → Includes name (statements_now ts) → Same name) → (env : Environment) (s : States V T) → statements_mean calls i run (statements_now ts) env s ≡ statements_meant calls j run ts env s
    statements_kept none_before h env s = refl
    statements_kept (then_before t ts) h env s = λ k. then_do (statement_kept t (λ name is. h name (inl is)) env s k) (λ s'. statements_kept ts (λ name is. h name (inr is)) env s' k)

    else_kept : (other : ElseBefore) → ((name : List ℕ) → ElseIncludes name (else_now other) true → Same name) → (env : Environment) (s : States V T) → else_means calls i run (else_now other) true env s ≡ else_meant calls j run other env s
    else_kept no_else_before h env s = refl
    else_kept (otherwise_before body) h env s = statements_kept body h env s

module _ {V T : Type 0} (calls : Calls V) (before : ResolverBefore T) (now : Resolver T) (names : List ℕ → Type 0) (alike : AnswersAlike names before now) where
  -- an answer of before, today
  answered : (from : RunningTemplate) (word : Ident) (x : SourceAnswer TemplateBefore) (q : States V T) (go : Template → States V T → Outcome (States V T)) (gone : TemplateBefore → States V T → Outcome (States V T)) → ((t : TemplateBefore) → x ≡ says t → go (template_now t) q ≡ gone t q) → on_template from word (answer_now x) q go ≡ on_template_before from word x q gone
  answered from word (says t) q go gone h = h t refl
  answered from word (refuses text) q go gone h = refl

  -- includes of these names, where so many are left, mean what they meant
  abbrev IncludedKept : ℕ → Type 0
  IncludedKept left = (from : RunningTemplate) (word : Ident) → names word.text → (env : Environment) (s : States V T) → included calls now left from word env s ≡ included_before calls before left from word env s

  tree_kept : (left : ℕ) → IncludedKept left → (tree : StatementsBefore) → IncludesOnly names tree → (from : RunningTemplate) (env : Environment) (s : States V T) → statements_mean calls (included calls now left) from (statements_now tree) env s ≡ statements_meant calls (included_before calls before left) from tree env s
  tree_kept left h tree only from env s = statements_kept calls from (included calls now left) (included_before calls before left) tree (λ n is word e env' s'. h from word (subst names (sym e) (only n is)) env' s') env s

  included_kept : (left : ℕ) → IncludedKept left
  included_kept zero from word named env s =
      let r = before s.templates word.text in
      ap (λ a. with_template from word s.values a (λ t s'. too_deep_outcome s')) (alike.same s.templates word.text named)
      ∙ answered from word r.answer (states s.values r.next) (λ t s'. too_deep_outcome s') (λ t s'. too_deep_outcome s') (λ t e. refl)
  included_kept (suc left) from word named env s =
      let r = before s.templates word.text in
      ap (λ a. with_template from word s.values a (λ t s'. statements_mean calls (included calls now left) (running t (Some word.text)) t.tree env s')) (alike.same s.templates word.text named)
      ∙ answered from word r.answer (states s.values r.next) (λ t s'. statements_mean calls (included calls now left) (running t (Some word.text)) t.tree env s') (λ t s'. statements_meant calls (included_before calls before left) (running_before t (Some word.text)) t.tree env s')
      (λ t e. tree_kept left (included_kept left) t.tree (alike.closed s.templates word.text t named e) (running_before t (Some word.text)) env (states s.values r.next))

  pub meaning_kept : (left : ℕ) (t : TemplateBefore) (name : Option (List ℕ)) (root : Root) (s : States V T) → IncludesOnly names t.tree → alone_within calls now left (template_now t) name root s ≡ alone_within_before calls before left t name root s
  meaning_kept left t name root s only = tree_kept left (included_kept left) t.tree only (running_before t name) (root_environment root) s
