-- A text that occurs in another one lies in it, and begins and ends between its characters.
use Rattle.std.proofs.Common.{◌≡◌, ℕ, ◌+◌, ◌<◌, ◌≤◌, List, ◌++◌, length, take, drop, get_or, get_or-take, get_or-drop, add-zero, arith, sym, ap, ◌∙◌, subst, refl, length-take, length-drop}
use Rattle.std.specs.Str.{IsUtf8, IsCharBoundary}
use Rattle.std.proofs.lemmas.List.{take-append-drop, take_at, drop-drop}
use Rattle.std.proofs.lemmas.Str.{IsCharBoundary-start, IsCharBoundary-from_take, IsCharBoundary-from_rest, IsUtf8-drop}
use Rattle.upon_types.specs.Span.{LiesIn}
use Rattle.upon_language_spec.specs.Search.{Occurs}

module _ (s : List ℕ) (p : ℕ) (d : List ℕ) where
  pub drop-Occurs : Occurs s p d → drop p s ≡ d ++ drop (p + length d) s
  drop-Occurs o = sym (take-append-drop (length d) (drop p s)) ∙ ap (λ t. t ++ drop (length d) (drop p s)) (sym o) ∙ ap (λ t. d ++ t) (drop-drop (length d) p s)

  pub Occurs-from_drop : (rest : List ℕ) → drop p s ≡ d ++ rest → Occurs s p d
  Occurs-from_drop rest e = sym (ap (λ t. take (length d) t) e ∙ take_at d rest (length d) refl)

module _ (s : List ℕ) (p : ℕ) (d : List ℕ) (some : 0 < length d) (o : Occurs s p d) where
  pub occurs_within : p + length d ≤ length s
  occurs_within =
      let e : length d ≡ length (take (length d) (drop p s)) = ap length o in
      omega (arith, e, length-take {A = ℕ}, length-drop {A = ℕ})

  pub same_first_byte : get_or d 0 0 ≡ get_or s p 0
  same_first_byte = ap (λ x. get_or x 0 0) o ∙ get_or-take (length d) (drop p s) 0 0 some ∙ get_or-drop p s 0 0 ∙ ap (λ i. get_or s i 0) (add-zero p)

  begins_between : IsUtf8 d → IsCharBoundary s p
  begins_between d_text =
      let within = occurs_within in
      let same = same_first_byte in
      let start = IsCharBoundary-start d d_text in
      (omega arith, λ l h. omega (arith, start.1 some (omega arith), same))

  ends_between : IsUtf8 s → IsUtf8 d → IsCharBoundary s (p + length d)
  ends_between s_text d_text =
      let within = occurs_within in
      IsCharBoundary-from_rest s p (length d) (omega arith)
      (IsCharBoundary-from_take (drop p s) (length d) (IsUtf8-drop s p s_text (begins_between d_text)) (omega (arith, length-drop {A = ℕ})) (subst IsUtf8 o d_text))

  pub occurs_lies_in : IsUtf8 s → IsUtf8 d → LiesIn s (record { m = p; n = p + length d })
  occurs_lies_in s_text d_text = record {
    ordered = omega arith;
    start = begins_between d_text;
    end = ends_between s_text d_text;
  }
