-- Where a text can't begin, by its first byte, and where no delimiter of a list occurs.
use Rattle.std.proofs.Common.{◌≡◌, ℕ, ◌+◌, ◌-◌, ◌<◌, ◌≤◌, ◌⊎◌, inl, inr, List, length, take, drop, get_or, get_or-take, get_or-drop, arith, sym, ap, ◌∙◌, subst, eq-eqb}
use Rattle.memchr.specs.Find.{Passes, Nowhere, is_byte}
use Rattle.upon_language_spec.specs.Search.{DelimiterText, Occurs, NoneAt, NoneFrom}
use Rattle.upon_language_spec.proofs.SpansLieIn.Offsets.{same_first_byte}

-- a text does not occur where its first byte is not found
pub starts_nowhere : (s bytes d text : List ℕ) (at end k : ℕ) → bytes ≡ s → text ≡ d → 0 < length d → at + k ≤ end
    → Nowhere (Passes (is_byte (get_or text 0 0)) (take (end - at) (drop at bytes))) 0 k
    → (q : ℕ) → at ≤ q → q < at + k → Occurs s q d → ⊥
starts_nowhere s bytes d text at end k source is some within none q after below o =
    let same : at + (q - at) ≡ q = omega arith in
    let in_range : q - at < end - at = omega arith in
    let byte : get_or (take (end - at) (drop at bytes)) (q - at) 0 ≡ get_or text 0 0 =
    get_or-take (end - at) (drop at bytes) (q - at) 0 in_range
    ∙ get_or-drop at bytes (q - at) 0
    ∙ ap (λ i. get_or bytes i 0) same
    ∙ ap (λ t. get_or t q 0) source
    ∙ sym (same_first_byte s q d some o)
    ∙ ap (λ t. get_or t 0 0) (sym is)
    in
    none (q - at) (omega arith) (omega arith) (eq-eqb _ _ byte)

at_or_after : (q m : ℕ) → m ≤ q → (m ≡ q) ⊎ (m + 1 ≤ q)
at_or_after q m h = grind arith

before_or_after : (q m : ℕ) → (q < m) ⊎ (m ≤ q)
before_or_after q m = grind arith

-- no delimiter up to an offset, none there, and none from the next one on
pub none_further : (delimiters : List DelimiterText) (s : List ℕ) (at m n : ℕ) → NoneFrom delimiters s at m → NoneAt delimiters s m → NoneFrom delimiters s (m + 1) n → NoneFrom delimiters s at n
none_further delimiters s at m n before here later q after below = elim (before_or_after q m) [
  | inl h ↦ before q after h
  | inr h ↦ elim (at_or_after q m h) [
    | inl e ↦ let At : ℕ → Type 0 = λ x. NoneAt delimiters s x in subst At e here
    | inr l ↦ later q l below
  ]
]
