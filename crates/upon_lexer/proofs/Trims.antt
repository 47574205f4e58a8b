-- What trimming leaves of a span lies in the text.
use Rattle.std.proofs.Common.{◌≡◌, ℕ, ◌+◌, ◌-◌, ◌<◌, ◌≤◌, List, [], ◌∷◌, length, take, drop, arith, refl, sym, ap, ◌∙◌, subst, length-take, length-drop}
use Rattle.std.specs.Str.{IsUtf8, IsCharBoundary, IsTrimEnd, IsTrimStart}
use Rattle.std.proofs.lemmas.List.{take-take, drop-take, drop-drop}
use Rattle.upon_types.specs.declared.types.Span.{Span}
use Rattle.upon_types.specs.Span.{LiesIn, slice}
use Rattle.upon_language_spec.specs.Search.{Occurs}
use Rattle.upon_language_spec.proofs.SpansLieIn.Offsets.{occurs_lies_in}

module _ (s r : List ℕ) (span : Span) (text : IsUtf8 s) (left : IsUtf8 r) (lies : LiesIn s span) where
  nothing_left : (p : ℕ) → length r ≡ 0 → IsCharBoundary s p → LiesIn s (record { m = p; n = p + length r })
  nothing_left p none between = record { ordered = omega arith; start = between; end = subst (IsCharBoundary s) (omega (arith, none)) between }

  -- what is at an offset lies in the text, also where it is nothing
  stands_in : (p : ℕ) → IsCharBoundary s p → Occurs s p r → LiesIn s (record { m = p; n = p + length r })
  stands_in p between o = by_text r refl
    where
      by_text : (t : List ℕ) → r ≡ t → LiesIn s (record { m = p; n = p + length r })
      by_text [] e = nothing_left p (ap length e) between
      by_text (b ∷ bs) e = let some : length r ≡ length (b ∷ bs) = ap length e in occurs_lies_in s p r (omega (arith, some)) o text left

  pub trimmed_end : IsTrimEnd (slice s span) r → LiesIn s (record { m = span.m; n = span.m + length r })
  trimmed_end h =
      let short : h.0 ≤ span.n - span.m = omega (arith, h.5, length-take (span.n - span.m) (drop span.m s)) in
      stands_in span.m lies.start (h.1 ∙ take-take h.0 (span.n - span.m) (drop span.m s) short ∙ ap (λ k. take k (drop span.m s)) (sym h.4))

  pub trimmed_start : IsTrimStart (slice s span) r → LiesIn s (record { m = span.n - length r; n = span.n })
  trimmed_start h = by_text r refl
    where
      within : length (slice s span) ≡ span.n - span.m
      within = omega (arith, lies.ordered, lies.end.0, length-take (span.n - span.m) (drop span.m s), length-drop span.m s)

      from : length r ≡ span.n - span.m - h.0
      from = ap length h.1 ∙ length-drop h.0 (slice s span) ∙ ap (λ k. k - h.0) within

      stands : 0 < length r → Occurs s (span.n - length r) r
      stands some =
          let split : span.n - span.m ≡ h.0 + length r = omega (arith, from, some) in
          let place : span.m + h.0 ≡ span.n - length r = omega (arith, from, some, lies.ordered) in
          h.1 ∙ ap (λ k. drop h.0 (take k (drop span.m s))) split ∙ drop-take h.0 (length r) (drop span.m s)
          ∙ ap (take (length r)) (drop-drop h.0 span.m s ∙ ap (λ k. drop k s) place)

      by_text : (t : List ℕ) → r ≡ t → LiesIn s (record { m = span.n - length r; n = span.n })
      by_text [] e = let none : length r ≡ 0 = ap length e in record { ordered = omega arith; start = subst (IsCharBoundary s) (omega (arith, none)) lies.end; end = lies.end }
      by_text (b ∷ bs) e =
          let some : length r ≡ length (b ∷ bs) = ap length e in
          let positive : 0 < length r = omega (arith, some) in
          let F : ℕ → Type 0 = λ n. LiesIn s (record { m = span.n - length r; n = n }) in
          subst F (omega (arith, from, lies.ordered)) (occurs_lies_in s (span.n - length r) r positive (stands positive) text left)
