-- Where a line ends: at the first byte after a span that ends one.
use Rattle.std.proofs.Common.{◌≡◌, ℕ, ◌+◌, ◌-◌, ◌<◌, ◌≤◌, inl, inr, false, List, length, drop, get_or, get_or-drop, length-drop, arith, refl, sym, ap, ◌∙◌}
use Rattle.std.proofs.lemmas.Bool.{false_from_ne_true}
use Rattle.std.specs.Prelude.{slice_index}
use Rattle.memchr.specs.Find.{Passes, NoneBefore, Nowhere, is_byte2}
use Rattle.upon_language_spec.specs.Inside.{ends_line}
use Rattle.upon_language_spec.specs.Faults.{LineEnds}

-- a search of the rest of the text for a byte that ends a line
module _ (s rest : List ℕ) (at : ℕ) (within : at ≤ length s) (is : rest ≡ drop at s) where
  at_rest : (k : ℕ) → slice_index rest k ≡ slice_index s (at + k)
  at_rest k = ap (λ t. get_or t k 0) is ∙ get_or-drop at s k 0

  rest_length : length rest ≡ length s - at
  rest_length = ap length is ∙ length-drop at s

  none_up_to : (k : ℕ) → Nowhere (Passes (is_byte2 10 13) rest) 0 k → (q : ℕ) → at ≤ q → q < at + k → ends_line (slice_index s q) ≡ false
  none_up_to k h q after below =
      let place : at + (q - at) ≡ q = omega arith in
      ap (λ i. ends_line (slice_index s i)) (sym place)
      ∙ ap ends_line (sym (at_rest (q - at)))
      ∙ false_from_ne_true (ends_line (slice_index rest (q - at))) (h (q - at) (omega arith) (omega arith))

  pub line_found : (k : ℕ) → NoneBefore (Passes (is_byte2 10 13) rest) 0 (length rest) k → Passes (is_byte2 10 13) rest k → LineEnds s at (at + k)
  line_found k h passes =
      let total = rest_length in
      let high = h.high in
      record {
        start = omega arith;
        within = omega arith;
        none = none_up_to k h.before;
        ends = inr (omega arith, ap ends_line (sym (at_rest k)) ∙ passes);
      }

  pub line_unfound : Nowhere (Passes (is_byte2 10 13) rest) 0 (length rest) → LineEnds s at (length s)
  line_unfound h =
      let total = rest_length in
      record {
        start = within;
        within = omega arith;
        none = λ q after below. none_up_to (length rest) h q after (omega arith);
        ends = inl refl;
      }
