-- A rendering over a stack without frames, by what is below them.
use Rattle.std.proofs.Common.{◌≡◌, ℕ, List, Option, Result, Ok, Bor, refl, sym, subst}
use Rattle.upon_types.specs.View.{view}
use Rattle.upon_types.specs.declared.error.Error.{Error}
use Rattle.upon_types.specs.declared.value.Value.{Value as CodeValue}
use Rattle.upon_lookup.specs.Environment.{context, value_source}
use Rattle.upon_render.specs.Roots.{pure_root}
use Rattle.upon_lookup.specs.Source.{Source as Asking}
use Rattle.upon_render.specs.declared.stack.Root.{Root}
use Rattle.upon_render.specs.declared.stack.Root.TheVariants.{Value, Source}
use Rattle.upon_meaning_spec.specs.Alone.{alone_within}
use Rattle.upon_meaning_spec.specs.Engine.{Calls, Resolver, Template}
use Rattle.upon_meaning_spec.specs.Outcome.{states}
use Rattle.upon_vm_steps.specs.Keeps.{SourceHas}
use Rattle.upon_vm_steps.specs.Machine.{source_state}
use Rattle.upon_engine.specs.Base.{base_of, outcome_within}
use Rattle.upon_vm.specs.Runs.{Ran}
use Rattle.upon_vm.specs.declared.failure.Failure.{Failure}
use Rattle.upon_vm.specs.declared.run.Ending.{Ending}

module _ {V Q P : Type 0} (ask_of : V → Asking Q) (state_of : V → Q) (result : Result Ending Failure) (old new : Option (List ℕ))
    (calls : Asking Q → Calls Q) (resolve : Resolver P) (left : ℕ) (t : Template) (name : Option (List ℕ)) (templates next : P) where
  -- what is known of each source that is asked, and each state
  abbrev pub Known : Root V → Root V → Type 0
  Known root after = (ask : Asking Q) (q : Q) → SourceHas ask_of root ask
      → Ran result old new (alone_within (calls ask) resolve left t name (pure_root root) (states (source_state state_of q root) templates))
      (states (source_state state_of q after) next)

  pub at_value : (ask : Asking Q) (q : Q) (root after : Root V) (v : Bor CodeValue) → root ≡ Value v → ((s : V) → state_of s ≡ q) → Known root after
      → Ran result old new (alone_within (calls ask) resolve left t name (context (view v.now)) (states q templates)) (states q next)
  at_value ask q root (Value w) v is only known = subst (λ r. Known r (Value w)) is known ask q tt
  at_value ask q root (Source s) v is only known =
      subst (λ n. Ran result old new (alone_within (calls ask) resolve left t name (context (view v.now)) (states q templates)) (states n next)) (only s)
      (subst (λ r. Known r (Source s)) is known ask q tt)

  pub at_source : (root after : Root V) (s u : V) → root ≡ Source s → after ≡ Source u → Known root after
      → Ran result old new (alone_within (calls (ask_of s)) resolve left t name value_source (states (state_of s) templates)) (states (state_of u) next)
  at_source root after s u is ends known = subst (λ a. Known (Source s) a) ends (subst (λ r. Known r after) is known) (ask_of s) (state_of s) refl

-- a rendering over a value that was made of what serde writes
pub at_made : {V T P : Type 0} (resolve : T → Resolver P) (state_of : T → P) (result : Result Ending Failure) (old new : Option (List ℕ)) (calls : Calls V)
    (left : ℕ) (t : Template) (name : Option (List ℕ)) (q r : V) (next : P) (made : Result CodeValue Error) (v w : CodeValue) (lent templates : T) → made ≡ Ok v → w ≡ v → lent ≡ templates
    → Ran result old new (alone_within calls (resolve lent) left t name (context (view w)) (states q (state_of lent))) (states r next)
    → Ran result old new (outcome_within calls (resolve templates) left t name (base_of made) (states q (state_of templates))) (states r next)
at_made resolve state_of result old new calls left t name q r next made v w lent templates is same given ran =
    subst (λ m. Ran result old new (outcome_within calls (resolve templates) left t name (base_of m) (states q (state_of templates))) (states r next)) (sym is)
    (subst (λ x. Ran result old new (alone_within calls (resolve x) left t name (context (view v)) (states q (state_of x))) (states r next)) given
    (subst (λ x. Ran result old new (alone_within calls (resolve lent) left t name (context (view x)) (states q (state_of lent))) (states r next)) same ran))

-- a source that has what it had
pub as_before : {V A : Type 0} (get : V → A) (root after : Root V) (s u : V) → root ≡ Source s → after ≡ Source u
    → ((a : A) → SourceHas get root a → SourceHas get after a) → get u ≡ get s
as_before get root after s u is ends keeps =
    subst (λ r. SourceHas get r (get s)) ends (keeps (get s) (subst (λ r. SourceHas get r (get s)) (sym is) refl))
