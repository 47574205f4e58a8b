-- Templates that include each other at most so deep end well where as many includes are left.
use Rattle.std.proofs.Common.{◌≡◌, ℕ, zero, suc, ◌≤◌, List, [], ◌∷◌, true, ◌&&◌, inl, inr, Option, Some, None, sym, subst, bytes_eq, arith}
use Rattle.std.proofs.lemmas.Slice.Eq.{bytes_eq-Decides}
use Rattle.upon_types.specs.Path.{Ident}
use Rattle.upon_types.specs.Val.{Val}
use Rattle.upon_lookup.specs.Environment.{Environment, context, root_environment}
use Rattle.upon_meaning_spec.specs.Alone.{running, on_template, included, alone_within}
use Rattle.upon_meaning_spec.specs.Engine.{Template, Table, Calls, table_answer, from_table}
use Rattle.upon_meaning_spec.specs.Meaning.{RunningTemplate}
use Rattle.upon_meaning_spec.specs.Outcome.{Outcome, States, states}
use Rattle.upon_shape_spec.specs.Accepted.{OnSome, StatementsAccepted, Planned, is_planned, IncludedBy, EachAccepted, AcceptedBy}
use Rattle.upon_shape_spec.specs.Declared.{Declared, KeepsDeclared}
use Rattle.upon_shape_spec.specs.Ends.{EndsWell}
use Rattle.upon_shape_spec.specs.Fits.{Fits}
use Rattle.upon_shape_spec.specs.Scope.{Scope, scope_over, ScopeFits, scope_wider}
use Rattle.upon_shape_spec.specs.Shape.{Shape}
use Rattle.upon_shape_spec.proofs.ScopesFit.{scope_wider_fits}
use Rattle.upon_shape_spec.proofs.Tests.{and_first, and_second}
use Rattle.upon_shape_spec.proofs.TemplatesFit.{statements_fine}
use Rattle.upon_shape_check.specs.Levels.{IncludeWithin}
use Rattle.upon_shape_check.proofs.Plans.{one_of_two, in_either, in_none}

-- a template that a table has
held_well : {Q : Type 0} (from : RunningTemplate) (word : Ident) (o : Option Template) (P : Template → Type 0) (q : Q)
    (go : Template → Q → Outcome Q) → OnSome o P → ((t : Template) → P t → EndsWell (go t q).end)
    → EndsWell (on_template from word (table_answer o) q go).end
held_well from word None P q go h k = absurd h
held_well from word (Some t) P q go h k = k t h

module _ (declared : Declared) (table : Table) where
  -- what a plan has is accepted on a scope that is at least as wide
  accepted_wide : (below : List Planned) (name : List ℕ) (scope : Scope) (plan : List Planned)
      → EachAccepted declared table below plan → is_planned plan name scope ≡ true
      → (wide : Scope) × (scope_wider wide scope ≡ true)
      × OnSome (table name) (λ t. StatementsAccepted declared (IncludedBy below) wide t.tree)
  accepted_wide below name scope [] each h = absurd (cc)
  accepted_wide below name scope (p ∷ plan) each h =
      let named = bytes_eq name p.name in
      let wider = scope_wider p.scope scope in
      elim (one_of_two (named && wider) (is_planned plan name scope) h) [
        | inl x ↦ (
          p.scope,
          and_second named wider x,
          subst (λ (n : List ℕ). OnSome (table n) (λ t. StatementsAccepted declared (IncludedBy below) p.scope t.tree))
              (sym ((bytes_eq-Decides name p.name).0 (and_first named wider x))) each.0,
        )
        | inr x ↦ accepted_wide below name scope plan each.1 x
      ]

  module _ {V T : Type 0} (calls : Calls V) (keeps : KeepsDeclared declared calls.callables calls.default_formatter) where
    -- templates that include those of a plan alone
    over_well : (n : ℕ) (below plan : List Planned) → EachAccepted declared table below plan
        → ((left : ℕ) → n ≤ left → (from : RunningTemplate) (word : Ident) (scope : Scope) (env : Environment) (s : States V T)
        → is_planned below word.text scope ≡ true → ScopeFits scope env
        → EndsWell (included calls (from_table table) left from word env s).end)
        → (left : ℕ) → suc n ≤ left → (from : RunningTemplate) (word : Ident) (scope : Scope) (env : Environment) (s : States V T)
        → is_planned plan word.text scope ≡ true → ScopeFits scope env
        → EndsWell (included calls (from_table table) left from word env s).end
    over_well n below plan each well zero less from word scope env s h fits = absurd (omega (arith, less))
    over_well n below plan each well (suc left) less from word scope env s h fits =
        let wide = accepted_wide below word.text scope plan each h in
        held_well from word (table word.text) (λ t. StatementsAccepted declared (IncludedBy below) wide.0 t.tree)
        (states s.values s.templates) _ wide.2
        (λ t x. statements_fine EndsWell tt calls declared keeps (IncludedBy below) (included calls (from_table table) left)
        (running t (Some word.text)) (well left (omega (arith, less)) (running t (Some word.text))) t.tree wide.0 env
        (states s.values s.templates) x (scope_wider_fits wide.0 scope env wide.1 fits))

    deep_well : (n : ℕ) (plan : List Planned) → IncludeWithin declared table n plan
        → (left : ℕ) → n ≤ left → (from : RunningTemplate) (word : Ident) (scope : Scope) (env : Environment) (s : States V T)
        → is_planned plan word.text scope ≡ true → ScopeFits scope env
        → EndsWell (included calls (from_table table) left from word env s).end
    deep_well zero plan none left less from word scope env s h fits = absurd (in_none plan word.text scope none h)
    deep_well (suc n) plan more left less from word scope env s h fits =
        let below = more.0 in
        let adds = more.2 in
        let has = subst (λ (p : List Planned). is_planned p word.text scope ≡ true) adds.is_made h in
        elim (in_either below adds.added word.text scope has) [
          | inl x ↦ deep_well n below more.1 left (omega (arith, less)) from word scope env s x fits
          | inr x ↦ over_well n below adds.added adds.each (deep_well n below more.1) left less from word scope env s x fits
        ]

    -- a template that includes those of a plan alone
    pub deep_alone : (n : ℕ) (plan : List Planned) → IncludeWithin declared table n plan → (left : ℕ) → n ≤ left
        → (t : Template) (name : Option (List ℕ)) (shape : Shape) (v : Val) (s : States V T)
        → AcceptedBy declared plan t shape → Fits shape v
        → EndsWell (alone_within calls (from_table table) left t name (context v) s).end
    deep_alone n plan within left less t name shape v s h fits =
        statements_fine EndsWell tt calls declared keeps (IncludedBy plan) (included calls (from_table table) left)
        (running t name) (deep_well n plan within left less (running t name)) t.tree (scope_over shape)
        (root_environment (context v)) s h (λ n. tt, fits)
