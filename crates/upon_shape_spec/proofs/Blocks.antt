-- Open blocks that end later stay, and those that end here are left.
use Rattle.std.proofs.Common.{◌≡◌, ℕ, ◌+◌, ◌≤◌, List, [], ◌∷◌, false, refl, ap, arith, if◌then◌else◌}
use Rattle.std.proofs.lemmas.Bool.{le-leb, lt-leb}
use Rattle.upon_shape_spec.specs.Scope.{Scope}
use Rattle.upon_shape_spec.specs.Known.{KnownOperand, Open, body_to, other_to, binding, known, around, has_ended, left_at}

-- each block ends at this number or later
abbrev pub EndsFrom : ℕ → Open → Type 0
EndsFrom p (body_to n other outer) = p ≤ n
EndsFrom p (other_to n outer) = p ≤ n
EndsFrom p (binding outer) = Unit {0}

abbrev pub EndFrom : ℕ → List Open → Type 0
EndFrom p [] = Unit {0}
EndFrom p (block ∷ opens) = EndsFrom p block × EndFrom p opens

ends_sooner : (p q : ℕ) (block : Open) → q ≤ p → EndsFrom p block → EndsFrom q block
ends_sooner p q (body_to n other outer) h k = omega (arith, k)
ends_sooner p q (other_to n outer) h k = omega (arith, k)
ends_sooner p q (binding outer) h k = tt

pub sooner : (p q : ℕ) (opens : List Open) → q ≤ p → EndFrom p opens → EndFrom q opens
sooner p q [] h k = tt
sooner p q (block ∷ opens) h k = (ends_sooner p q block h k.0, sooner p q opens h k.1)

not_ended : (p : ℕ) (block : Open) → EndsFrom (p + 1) block → has_ended p block ≡ false
not_ended p (body_to n other outer) h = lt-leb n p (omega (arith, h))
not_ended p (other_to n outer) h = lt-leb n p (omega (arith, h))
not_ended p (binding outer) h = refl

-- no block ends here
pub stays : (p : ℕ) (os : List KnownOperand) (scope : Scope) (opens : List Open) → EndFrom (p + 1) opens → left_at p os scope opens ≡ known os scope opens
stays p os scope [] h = refl
stays p os scope (block ∷ opens) h = ap (λ b. if b then left_at p os (around block) opens else known os scope (block ∷ opens)) (not_ended p block h.0)

-- the innermost block ends here
pub leaves_body : (p : ℕ) (os : List KnownOperand) (scope other outer : Scope) (opens : List Open) → left_at p os scope (body_to p other outer ∷ opens) ≡ left_at p os outer opens
leaves_body p os scope other outer opens = ap (λ b. if b then left_at p os outer opens else known os scope (body_to p other outer ∷ opens)) (le-leb p p (omega arith))

pub leaves_other : (p : ℕ) (os : List KnownOperand) (scope outer : Scope) (opens : List Open) → left_at p os scope (other_to p outer ∷ opens) ≡ left_at p os outer opens
leaves_other p os scope outer opens = ap (λ b. if b then left_at p os outer opens else known os scope (other_to p outer ∷ opens)) (le-leb p p (omega arith))
