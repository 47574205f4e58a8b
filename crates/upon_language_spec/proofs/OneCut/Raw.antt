-- A raw part has one end, and no delimiter begins where it does.
use Rattle.std.proofs.Common.{◌≡◌, ℕ, ◌<◌, inl, inr, List, arith}
use Rattle.std.proofs.lemmas.Bool.{cases_order}
use Rattle.upon_types.specs.declared.types.Delimiter.{Delimiter}
use Rattle.upon_language_spec.specs.Search.{DelimiterText, IsBestDelimiter}
use Rattle.upon_language_spec.specs.Raw.{IsRaw}
use Rattle.upon_language_spec.proofs.OneCut.Delimiter.{not_bare}

module _ (delimiters : List DelimiterText) (s : List ℕ) where
  raw_is_longest : (m n k : ℕ) → IsRaw delimiters s m n → IsRaw delimiters s m k → n < k → ⊥
  raw_is_longest m n k a b l = elim a.ends [
    | inl e ↦ omega (arith, e, b.within)
    | inr d ↦ not_bare delimiters s d.0 n d.1 d.2 (b.bare n (omega (arith, a.some)) l)
  ]

  pub one_raw : (m n k : ℕ) → IsRaw delimiters s m n → IsRaw delimiters s m k → n ≡ k
  one_raw m n k a b = elim (cases_order n k) [
    | inl e ↦ e
    | inr differ ↦ elim differ [ inl l ↦ absurd (raw_is_longest m n k a b l) | inr l ↦ absurd (raw_is_longest m k n b a l) ]
  ]

  pub raw_is_no_delimiter : (kind : Delimiter) (m n k : ℕ) → IsRaw delimiters s m n → IsBestDelimiter delimiters s kind m k → ⊥
  raw_is_no_delimiter kind m n k a b = not_bare delimiters s kind m k b (a.bare m (omega arith) a.some)
