-- Powers of ten, and the digits that they cut off.
use Rattle.std.proofs.Common.{◌≡◌, ℕ, zero, suc, ◌+◌, ◌-◌, ◌/◌, ◌%◌, ◌<◌, ◌^◌, List, [], ◌∷◌, ◌++◌, refl, ap, sym, ◌∙◌, append_assoc, arith}
use Rattle.std.proofs.Math.Nat.{pow-suc}
use Rattle.upon_types.specs.Bytes.{digit_zero}
use Rattle.upon_std.specs.Basic.Decimal.{last_digits}

-- a power of ten is above 0
pub power_positive : (k : ℕ) → 0 < 10 ^ k
power_positive zero = omega arith
power_positive (suc k) = let below = power_positive k in rw (pow-suc 10 k) (omega (arith, below))

-- the first of the last digits, and the others
pub last_digits_step : (k n : ℕ) → 0 < k → last_digits k n ≡ (digit_zero + n / 10 ^ (k - 1) % 10) ∷ last_digits (k - 1) n
last_digits_step zero n h = absurd (omega (arith, h))
last_digits_step (suc k) n h = let e : suc k - 1 ≡ k = omega arith in rw e refl

-- one more of the last digits is written, the others follow
pub digit_written : (new old added whole : List ℕ) (left size unit digit : ℕ) → 0 < left → unit ≡ 10 ^ (left - 1) → digit ≡ 48 + size / unit % 10
    → added ≡ digit ∷ [] → new ≡ old ++ added → old ++ last_digits left size ≡ whole → new ++ last_digits (left - 1) size ≡ whole
digit_written new old added whole left size unit digit some of_unit of_digit of_added of_new written =
    let rest = last_digits (left - 1) size in
    ap (λ x. x ++ rest) (of_new ∙ ap (λ x. old ++ x) of_added) ∙ append_assoc old (digit ∷ []) rest
    ∙ ap (λ d. old ++ (d ∷ rest)) (of_digit ∙ ap (λ u. 48 + size / u % 10) of_unit)
    ∙ ap (λ x. old ++ x) (sym (last_digits_step left size some)) ∙ written
