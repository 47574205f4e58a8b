-- At a span is one delimiter at most that is the best.
use Rattle.std.proofs.Common.{◌≡◌, ℕ, ◌+◌, ◌<◌, ◌≤◌, inl, inr, List, length, arith, sym, ap, ◌∙◌}
use Rattle.std.proofs.lemmas.Bool.{cases_order}
use Rattle.upon_types.specs.declared.types.Delimiter.{Delimiter}
use Rattle.upon_language_spec.specs.Search.{DelimiterText, text_at, kind_at, HasTexts, NoneAt, IsBest, IsBestDelimiter}
use Rattle.upon_language_spec.proofs.SpansLieIn.Offsets.{occurs_within}

one_best : (delimiters : List DelimiterText) (s : List ℕ) (p i j : ℕ) → IsBest delimiters s p i → IsBest delimiters s p j → i ≡ j
one_best delimiters s p i j h k = elim (cases_order i j) [
  | inl e ↦ e
  | inr differ ↦ elim differ [
    | inl l ↦ absurd (omega (arith, k.earliest i l h.occurs, h.longest j k.in_range k.occurs))
    | inr l ↦ absurd (omega (arith, h.earliest j l k.occurs, k.longest i h.in_range h.occurs))
  ]
]

pub one_stands : (delimiters : List DelimiterText) (s : List ℕ) (kind other : Delimiter) (m n k : ℕ) → IsBestDelimiter delimiters s kind m n → IsBestDelimiter delimiters s other m k → (kind ≡ other) × (n ≡ k)
one_stands delimiters s kind other m n k a b =
    let i = one_best delimiters s m a.index b.index a.best b.best in
    (a.of_kind ∙ ap (kind_at delimiters) i ∙ sym b.of_kind, a.to ∙ ap (λ x. m + length (text_at delimiters x)) i ∙ sym b.to)

pub not_bare : (delimiters : List DelimiterText) (s : List ℕ) (kind : Delimiter) (m n : ℕ) → IsBestDelimiter delimiters s kind m n → NoneAt delimiters s m → ⊥
not_bare delimiters s kind m n h bare = bare h.index h.best.in_range h.best.occurs

pub stands_ends : (delimiters : List DelimiterText) (s : List ℕ) (kind : Delimiter) (m n : ℕ) → HasTexts delimiters → IsBestDelimiter delimiters s kind m n → (m < n) × (n ≤ length s)
stands_ends delimiters s kind m n texts h =
    let some = texts h.index h.best.in_range in
    let within = occurs_within s m (text_at delimiters h.index) some h.best.occurs in
    (omega (arith, h.to, some), omega (arith, h.to, within))
