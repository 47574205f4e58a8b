-- What trimming leaves of a span lies in the text.
use Rattle.std.proofs.Common.{◌≡◌, ℕ, ◌+◌, ◌-◌, ◌≤◌, ◌&&◌, ◌==◌, List, [], ◌∷◌, ◌++◌, length, drop, Bool, true, false, encode_utf8_all, refl, sym, ap, ◌∙◌, subst, arith, append_assoc, length-append, length-take, length-drop}
use Rattle.std.specs.Prelude.{cond}
use Rattle.std.specs.Char.{is_whitespace}
use Rattle.std.specs.Str.{IsUtf8, IsCharBoundary, chars, trim_start, trim_end, drop_trailing_whitespace, skip_leading_whitespace}
use Rattle.std.proofs.lemmas.List.{take-append-drop, drop-drop}
use Rattle.std.proofs.lemmas.Str.{IsUtf8-drop, IsUtf8-take, IsCharBoundary-from_drop, encodes-chars, encodes-append}
use Rattle.upon_types.specs.declared.types.Span.{Span}
use Rattle.upon_types.specs.Span.{LiesIn, slice}
use Rattle.upon_language_spec.proofs.SpansLieIn.Offsets.{drop-Occurs, Occurs-from_drop}
use Rattle.upon_language_spec.proofs.SpansLieIn.Characters.{past_chars}
use Rattle.upon_language_spec.specs.Shown.{trim_end_span, trim_start_span, trim_if, shown_span}

-- the characters that are dropped
trailing : (cs : List ℕ) → (ws : List ℕ) × (drop_trailing_whitespace cs ++ ws ≡ cs)
trailing [] = ([], refl)
trailing (c ∷ cs) = by_space (is_whitespace c && length (drop_trailing_whitespace cs) == 0) (trailing cs)
  where
    by_space : (b : Bool) → (ws : List ℕ) × (drop_trailing_whitespace cs ++ ws ≡ cs) → (ws : List ℕ) × (cond b [] (c ∷ drop_trailing_whitespace cs) ++ ws ≡ c ∷ cs)
    by_space true others = (c ∷ cs, refl)
    by_space false others = (others.0, ap (λ x. c ∷ x) others.1)

leading : (cs : List ℕ) → (ws : List ℕ) × (ws ++ skip_leading_whitespace cs ≡ cs)
leading [] = ([], refl)
leading (c ∷ cs) = by_space (is_whitespace c) (leading cs)
  where
    by_space : (b : Bool) → (ws : List ℕ) × (ws ++ skip_leading_whitespace cs ≡ cs) → (ws : List ℕ) × (ws ++ cond b (skip_leading_whitespace cs) (c ∷ cs) ≡ c ∷ cs)
    by_space true others = (c ∷ others.0, ap (λ x. c ∷ x) others.1)
    by_space false others = ([], refl)

module _ (s : List ℕ) (text : IsUtf8 s) (span : Span) (lies : LiesIn s span) where
  within : length (slice s span) ≡ span.n - span.m
  within = omega (arith, lies.ordered, lies.end.0, length-take (span.n - span.m) (drop span.m s), length-drop span.m s)

  behind : span.m + (span.n - span.m) ≡ span.n
  behind = omega (arith, lies.ordered)

  part_is_text : IsUtf8 (slice s span)
  part_is_text =
      let from = IsUtf8-drop s span.m text lies.start in
      let rest : IsUtf8 (drop (span.n - span.m) (drop span.m s)) = subst IsUtf8 (sym (drop-drop (span.n - span.m) span.m s ∙ ap (λ k. drop k s) behind)) (IsUtf8-drop s span.n text lies.end) in
      IsUtf8-take (drop span.m s) (span.n - span.m) from (IsCharBoundary-from_drop (drop span.m s) (span.n - span.m) (omega (arith, lies.ordered, lies.end.0, length-drop span.m s)) rest)

  splits : drop span.m s ≡ slice s span ++ drop (span.n - span.m) (drop span.m s)
  splits = sym (take-append-drop (span.n - span.m) (drop span.m s))

  -- after some characters of the part the text may be cut
  after_front : (cs ws : List ℕ) → cs ++ ws ≡ chars (slice s span) → (length (encode_utf8_all cs) ≤ span.n - span.m) × IsCharBoundary s (span.m + length (encode_utf8_all cs)) × (encode_utf8_all cs ++ encode_utf8_all ws ≡ slice s span)
  after_front cs ws e =
      let front = encode_utf8_all cs in
      let back = encode_utf8_all ws in
      let whole : front ++ back ≡ slice s span = sym (encodes-append cs ws) ∙ ap encode_utf8_all e ∙ encodes-chars (slice s span) part_is_text in
      let short : length front ≤ span.n - span.m = omega (arith, ap length whole, length-append front back, within) in
      let rest = back ++ drop (span.n - span.m) (drop span.m s) in
      let reads : drop span.m s ≡ front ++ rest = splits ∙ ap (λ x. x ++ drop (span.n - span.m) (drop span.m s)) (sym whole) ∙ append_assoc front back (drop (span.n - span.m) (drop span.m s)) in
      let on : drop span.m s ≡ front ++ drop (span.m + length front) s = drop-Occurs s span.m front (Occurs-from_drop s span.m front rest reads) in (
        short,
        IsCharBoundary-from_drop s (span.m + length front) (omega (arith, short, lies.ordered, lies.end.0)) (past_chars cs (drop (span.m + length front) s) (drop span.m s) (IsUtf8-drop s span.m text lies.start) on),
        whole,
      )

  pub end_lies : LiesIn s (trim_end_span s span)
  unfolding trim_end
  end_lies =
      let cut = trailing (chars (slice s span)) in
      let front = after_front (drop_trailing_whitespace (chars (slice s span))) cut.0 cut.1 in
      record { ordered = omega arith; start = lies.start; end = front.1 }

  pub end_within : (trim_end_span s span).n ≤ span.n
  unfolding trim_end
  end_within =
      let cut = trailing (chars (slice s span)) in
      let front = after_front (drop_trailing_whitespace (chars (slice s span))) cut.0 cut.1 in
      omega (arith, front.0, lies.ordered)

  start_at : (span.n - length (trim_start (slice s span)) ≡ span.m + length (encode_utf8_all (leading (chars (slice s span))).0)) × (length (trim_start (slice s span)) ≤ span.n - span.m)
  unfolding trim_start
  start_at =
      let cut = leading (chars (slice s span)) in
      let front = after_front cut.0 (skip_leading_whitespace (chars (slice s span))) cut.1 in
      let lengths = length-append (encode_utf8_all cut.0) (encode_utf8_all (skip_leading_whitespace (chars (slice s span)))) in
      let whole = ap length front.2 in
      (omega (arith, lengths, whole, within, lies.ordered), omega (arith, lengths, whole, within))

  pub start_lies : LiesIn s (trim_start_span s span)
  start_lies =
      let cut = leading (chars (slice s span)) in
      let front = after_front cut.0 (skip_leading_whitespace (chars (slice s span))) cut.1 in
      record { ordered = omega arith; start = subst (IsCharBoundary s) (sym start_at.0) front.1; end = lies.end }

  pub start_within : span.m ≤ (trim_start_span s span).m
  start_within = omega (arith, start_at.0)

-- a span in another one
pub record Shrinks (s : List ℕ) (span small : Span) : Type 0 where
  pub lies : LiesIn s small
  pub start : span.m ≤ small.m
  pub end : small.n ≤ span.n

end_shrinks : (s : List ℕ) (text : IsUtf8 s) (span : Span) (trims : Bool) → LiesIn s span → Shrinks s span (trim_if trims (trim_end_span s) span)
end_shrinks s text span true lies = record { lies = end_lies s text span lies; start = omega arith; end = end_within s text span lies }
end_shrinks s text span false lies = record { lies = lies; start = omega arith; end = omega arith }

start_shrinks : (s : List ℕ) (text : IsUtf8 s) (span : Span) (trims : Bool) → LiesIn s span → Shrinks s span (trim_if trims (trim_start_span s) span)
start_shrinks s text span true lies = record { lies = start_lies s text span lies; start = start_within s text span lies; end = omega arith }
start_shrinks s text span false lies = record { lies = lies; start = omega arith; end = omega arith }

-- the shown part of a raw part
pub shown_shrinks : (s : List ℕ) (text : IsUtf8 s) (span : Span) (before later : Bool) → LiesIn s span → Shrinks s span (shown_span s before later span)
shown_shrinks s text span before later lies =
    let a = end_shrinks s text span later lies in
    let b = start_shrinks s text (trim_if later (trim_end_span s) span) before a.lies in
    record { lies = b.lies; start = omega (arith, a.start, b.start); end = omega (arith, a.end, b.end) }
