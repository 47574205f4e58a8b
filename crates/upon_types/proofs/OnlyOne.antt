-- What is one at most is known where it is known that it is there.
use Rattle.std.proofs.Common.{◌≡◌}
use Rattle.std.proofs.Math.Logic.{∥∥₁_elim, ∥∥₁_prop}
use mathlib.Core.HLevel.{Σ_prop_path}

-- of a property that one at most has, there is one at most with the fact that it has it
pub only_one : {A : Type 0} → ((a b : A) (p q : a ≡ b) → p ≡ q) → (P : A → Type 0) → ((a b : A) → P a → P b → a ≡ b)
    → (x y : (a : A) × ∥ P a ∥₁) → x ≡ y
only_one one_path P only x y =
    Σ_prop_path (λ a. ∥∥₁_prop)
    (∥∥₁_elim x.1 (one_path x.0 y.0) (λ h. ∥∥₁_elim y.1 (one_path x.0 y.0) (λ k. only x.0 y.0 h k)))
