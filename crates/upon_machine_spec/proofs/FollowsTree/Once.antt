-- A run gives one outcome, however many steps it is given.
use Rattle.std.proofs.Common.{◌≡◌, ℕ, zero, suc, Option, Some, None, option_map, refl, ap, subst}
use Rattle.upon_lookup.specs.Environment.{Root}
use Rattle.upon_meaning_spec.specs.Engine.{Calls, Resolver}
use Rattle.upon_meaning_spec.specs.Outcome.{Outcome, States, with_text_before}
use Rattle.upon_machine_spec.specs.Run.{on_next, run}
use Rattle.upon_machine_spec.specs.State.{State}
use Rattle.upon_machine_spec.specs.Step.{Next, goes, stops, stuck, step}

-- two that may have ended are alike where both have
abbrev Alike : {A : Type 0} → Option A → Option A → Type 0
Alike (Some a) (Some b) = a ≡ b
Alike None y = Unit {0}
Alike (Some a) None = Unit {0}

alike_mapped : {A B : Type 0} (f : A → B) (x y : Option A) → Alike x y → Alike (option_map f x) (option_map f y)
alike_mapped f (Some a) (Some b) h = ap f h
alike_mapped f None y h = tt
alike_mapped f (Some a) None h = tt

nothing_left : {A : Type 0} (x : Option A) → Alike x None
nothing_left None = tt
nothing_left (Some a) = tt

module _ {V T : Type 0} (calls : Calls V) (resolve : Resolver T) (root : Root) where
  on_both : (f g : State V T → Option (Outcome (States V T))) → ((s : State V T) → Alike (f s) (g s)) → (x : Next V T) → Alike (on_next f x) (on_next g x)
  on_both f g h (goes text s) = alike_mapped (with_text_before text) (f s) (g s) (h s)
  on_both f g h (stops text end q) = refl
  on_both f g h stuck = tt

  alike : (m n : ℕ) (s : State V T) → Alike (run calls resolve root m s) (run calls resolve root n s)
  alike zero n s = tt
  alike (suc m) zero s = nothing_left (run calls resolve root (suc m) s)
  alike (suc m) (suc n) s = on_both (run calls resolve root m) (run calls resolve root n) (alike m n) (step calls resolve root s)

  pub once : (m n : ℕ) (s : State V T) (a b : Outcome (States V T)) → run calls resolve root m s ≡ Some a → run calls resolve root n s ≡ Some b → a ≡ b
  once m n s a b x y = subst (λ o. Alike o (Some b)) x (subst (λ o. Alike (run calls resolve root m s) o) y (alike m n s))
