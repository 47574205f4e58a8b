-- Two lists of delimiters are one where the same kind and the same text is at each index.
use Rattle.std.proofs.Common.{◌≡◌, ℕ, suc, ◌+◌, ◌<◌, ◌⊎◌, inl, inr, List, [], ◌∷◌, length, arith, subst}
use Rattle.upon_language_spec.specs.Search.{DelimiterText, kind_at, text_at}

-- they have the same delimiter at an index
abbrev pub SameAt : List DelimiterText → List DelimiterText → ℕ → Type 0
SameAt ps qs i = (kind_at ps i ≡ kind_at qs i) × (text_at ps i ≡ text_at qs i)

pub same_list : (ps qs : List DelimiterText) → length ps ≡ length qs
    → ((i : ℕ) → i < length ps → SameAt ps qs i) → ps ≡ qs
same_list [] [] lengths same = λ i. []
same_list [] (q ∷ qs) lengths same = absurd (omega (arith, lengths))
same_list (p ∷ ps) [] lengths same = absurd (omega (arith, lengths))
same_list (p ∷ ps) (q ∷ qs) lengths same =
    let first = same 0 (omega arith) in
    let rest : ps ≡ qs = same_list ps qs (omega (arith, lengths)) (λ i l. same (suc i) (omega (arith, l))) in
    λ i. record { kind = first.0 i; text = first.1 i } ∷ rest i

below_or_at : (j i : ℕ) → j < i + 1 → (j < i) ⊎ (i ≡ j)
below_or_at j i l = grind arith

-- lists with the same delimiters below an index, and the same one at it, have the same ones below the next index
pub same_further : (ps qs : List DelimiterText) (i : ℕ) → ((j : ℕ) → j < i → SameAt ps qs j) → SameAt ps qs i
    → (j : ℕ) → j < i + 1 → SameAt ps qs j
same_further ps qs i before here j l = elim (below_or_at j i l) [
  | inl below ↦ before j below
  | inr e ↦ subst (SameAt ps qs) e here
]
