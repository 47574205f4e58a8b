-- What is accepted ends without a fault, with the templates that it includes.
use Rattle.std.proofs.Common.{◌≡◌, ℕ, zero, suc, ◌≤◌, List, [], ◌∷◌, Bool, true, false, ◌&&◌, ◌||◌, ◌⊎◌, inl, inr, Option, Some, None, refl, sym, subst, bytes_eq, arith}
use Rattle.std.proofs.lemmas.Slice.Eq.{bytes_eq-Decides}
use Rattle.upon_types.specs.Fault.{Fault}
use Rattle.upon_types.specs.Path.{Ident}
use Rattle.upon_types.specs.Val.{Val}
use Rattle.upon_lookup.specs.Environment.{Environment, context, root_environment}
use Rattle.upon_meaning_spec.specs.Alone.{running, on_template, included, alone_within, fault_of_end}
use Rattle.upon_meaning_spec.specs.CallFaults.{depth_reached}
use Rattle.upon_meaning_spec.specs.Engine.{Template, Table, Calls, table_answer, from_table}
use Rattle.upon_meaning_spec.specs.Meaning.{RunningTemplate}
use Rattle.upon_meaning_spec.specs.Outcome.{End, good, fails, too_deep, Outcome, States, states}
use Rattle.upon_shape_spec.specs.Accepted.{OnSome, StatementsAccepted, IncludedWithin, AcceptedWithin, Planned, is_planned, IncludedBy, EachAccepted, IsClosed, AcceptedBy}
use Rattle.upon_shape_spec.specs.Declared.{Declared, KeepsDeclared}
use Rattle.upon_shape_spec.specs.Ends.{EndsWell, EndsWithoutFault}
use Rattle.upon_shape_spec.specs.Fits.{Fits}
use Rattle.upon_shape_spec.specs.Scope.{Scope, scope_over, ScopeFits, scope_wider}
use Rattle.upon_shape_spec.specs.Shape.{Shape}
use Rattle.upon_shape_spec.proofs.ScopesFit.{scope_wider_fits}
use Rattle.upon_shape_spec.proofs.Tests.{and_first, and_second}
use Rattle.upon_shape_spec.proofs.TemplatesFit.{statements_fine}

-- a template that a table has
held_fine : {Q : Type 0} (Fine : End → Type 0) (from : RunningTemplate) (word : Ident) (o : Option Template) (P : Template → Type 0) (q : Q) (go : Template → Q → Outcome Q) → OnSome o P → ((t : Template) → P t → Fine (go t q).end) → Fine (on_template from word (table_answer o) q go).end
held_fine Fine from word None P q go h k = absurd h
held_fine Fine from word (Some t) P q go h k = k t h

-- ---- by a plan
either : (a b : Bool) → (a || b) ≡ true → (a ≡ true) ⊎ (b ≡ true)
either true b h = inl refl
either false b h = inr h

module _ (declared : Declared) (table : Table) (plan : List Planned) where
  -- of this name there is a template, which is accepted on a scope that is at least as wide
  Wide : List ℕ → Scope → Scope → Type 0
  Wide name scope wide = (scope_wider wide scope ≡ true) × OnSome (table name) (λ t. StatementsAccepted declared (IncludedBy plan) wide t.tree)

  wide_scope : (name : List ℕ) (scope : Scope) (rest : List Planned) → EachAccepted declared table plan rest → is_planned rest name scope ≡ true → (wide : Scope) × Wide name scope wide
  unfolding Wide
  wide_scope name scope [] h e = absurd (cc)
  wide_scope name scope (p ∷ rest) h e =
      let here = bytes_eq name p.name && scope_wider p.scope scope in
      elim (either here (is_planned rest name scope) e) [
        | inl x ↦ (p.scope, (and_second (bytes_eq name p.name) (scope_wider p.scope scope) x, subst (λ (n : List ℕ). OnSome (table n) (λ t. StatementsAccepted declared (IncludedBy plan) p.scope t.tree)) (sym ((bytes_eq-Decides name p.name).0 (and_first (bytes_eq name p.name) (scope_wider p.scope scope) x))) h.0))
        | inr x ↦ wide_scope name scope rest h.1 x
      ]

  module _ {V T : Type 0} (calls : Calls V) (keeps : KeepsDeclared declared calls.callables calls.default_formatter) (closed : IsClosed declared table plan) where
    planned_fine : (left : ℕ) (from : RunningTemplate) (word : Ident) (scope : Scope) (env : Environment) (s : States V T) → IncludedBy plan word.text scope → ScopeFits scope env → EndsWithoutFault (included calls (from_table table) left from word env s).end
    unfolding Wide
    planned_fine zero from word scope env s h fits =
        let wide = wide_scope word.text scope plan closed h in
        held_fine EndsWithoutFault from word (table word.text) (λ t. StatementsAccepted declared (IncludedBy plan) wide.0 t.tree) (states s.values s.templates) _ wide.1.1 (λ t x. tt)
    planned_fine (suc left) from word scope env s h fits =
        let wide = wide_scope word.text scope plan closed h in
        held_fine EndsWithoutFault from word (table word.text) (λ t. StatementsAccepted declared (IncludedBy plan) wide.0 t.tree) (states s.values s.templates) _ wide.1.1
        (λ t x. statements_fine EndsWithoutFault tt calls declared keeps (IncludedBy plan) (included calls (from_table table) left) (running t (Some word.text)) (planned_fine left (running t (Some word.text))) t.tree wide.0 env (states s.values s.templates) x (scope_wider_fits wide.0 scope env wide.1.0 fits))

    pub planned_alone : (left : ℕ) (t : Template) (name : Option (List ℕ)) (shape : Shape) (v : Val) (s : States V T) → AcceptedBy declared plan t shape → Fits shape v → EndsWithoutFault (alone_within calls (from_table table) left t name (context v) s).end
    planned_alone left t name shape v s h fits =
        statements_fine EndsWithoutFault tt calls declared keeps (IncludedBy plan) (included calls (from_table table) left) (running t name) (planned_fine left (running t name)) t.tree (scope_over shape) (root_environment (context v)) s h (λ n. tt, fits)

-- ---- within a depth
module _ (declared : Declared) (table : Table) {V T : Type 0} (calls : Calls V) (keeps : KeepsDeclared declared calls.callables calls.default_formatter) where
  within_well : (n left : ℕ) → n ≤ left → (from : RunningTemplate) (word : Ident) (scope : Scope) (env : Environment) (s : States V T) → IncludedWithin declared table n word.text scope → ScopeFits scope env → EndsWell (included calls (from_table table) left from word env s).end
  within_well zero left le from word scope env s h fits = absurd h
  within_well (suc n) zero le from word scope env s h fits = absurd (omega (arith, le))
  within_well (suc n) (suc left) le from word scope env s h fits =
      held_fine EndsWell from word (table word.text) (λ t. StatementsAccepted declared (IncludedWithin declared table n) scope t.tree) (states s.values s.templates) _ h
      (λ t x. statements_fine EndsWell tt calls declared keeps (IncludedWithin declared table n) (included calls (from_table table) left) (running t (Some word.text)) (within_well n left (omega (arith, le)) (running t (Some word.text))) t.tree scope env (states s.values s.templates) x fits)

  pub within_alone : (n left : ℕ) → n ≤ left → (t : Template) (name : Option (List ℕ)) (shape : Shape) (v : Val) (s : States V T) → AcceptedWithin declared table n t shape → Fits shape v → EndsWell (alone_within calls (from_table table) left t name (context v) s).end
  within_alone n left le t name shape v s h fits =
      statements_fine EndsWell tt calls declared keeps (IncludedWithin declared table n) (included calls (from_table table) left) (running t name) (within_well n left le (running t name)) t.tree (scope_over shape) (root_environment (context v)) s h (λ n. tt, fits)

-- the one fault that is reported
pub depth_alone : (limit : ℕ) (end : End) (f : Fault) → EndsWithoutFault end → fault_of_end limit end ≡ Some f → f ≡ depth_reached limit
depth_alone limit good f h e = absurd (cc)
depth_alone limit (fails g) f h e = absurd h
depth_alone limit too_deep f h e = let same : depth_reached limit ≡ f = cc in sym same

-- an end that is not too deep
pub not_too_deep : (end : End) → EndsWithoutFault end → (end ≡ too_deep → ⊥) → EndsWell end
not_too_deep good h k = tt
not_too_deep (fails f) h k = absurd h
not_too_deep too_deep h k = absurd (k refl)
