use Rattle.std.proofs.Common.{ℕ, ◌+◌, ◌-◌, ◌≡◌, [], ◌∷◌, ◌++◌, Some, arith, rules, refl, sym, ap, ◌∙◌, subst, length, encode_utf8}
use Rattle.std.specs.Str.{IsCharBoundary}
use Rattle.std.proofs.lemmas.Str.{length-encode}
use Rattle.upon_language_spec.specs.Inside.{pieces_text}
use Rattle.upon_language_spec.specs.LiteralFaults.{escape_fault}
use Rattle.upon_language_spec.proofs.Offsets.Bytes.{behind_byte, first_of}
use Rattle.upon_lexer.proofs.StringPieces.{LeftAt, HaveFault, taken_holds, fault_after, left_at_start, at_quote, past_plain, at_backslash, not_at_end, strange, past_escape, inside_text}
use Rattle.upon_lexer.proofs.literal.strange_escape.Goals as goal

pub loop-c-init : goal.loop-c-init
loop-c-init c =
    let s = c.args.source.now in
    let m = c.args.span.m in
    let q = c.requires.string in
    record {
      between = behind_byte s m 34 (omega arith) c.utf8.source c.requires.span.start (first_of s m 34 (pieces_text q.pieces ++ 34 ∷ []) q.occurs);
      left = λ string. left_at_start s (HaveFault (escape_fault (m + 1) string.pieces)) m c.args.span.n string refl;
    }

pub returns-in-34 : goal.returns-in-34
returns-in-34 c = λ string. sym (at_quote c.args.source.now (HaveFault (escape_fault (c.args.span.m + 1) string.pieces)) c.loop-c.at c.in-Some.c c.in-Some.ensures.occurs (c.loop-c.invariant.left string) c.in-34.is)

pub loop-c-preserved : goal.loop-c-preserved
loop-c-preserved c =
    let s = c.args.source.now in
    let at = c.loop-c.at in
    let d = c.in-Some.c in
    let size : length (encode_utf8 d) ≡ c.len_utf8-at.result = length-encode d ∙ sym c.len_utf8-at.ensures.value in
    record {
      between = let G : ℕ → Type 0 = λ n. IsCharBoundary s (at + n) in subst G (sym c.len_utf8-at.ensures.value) c.in-Some.ensures.span.end;
      left = λ string.
          let whole = escape_fault (c.args.span.m + 1) string.pieces in
          let F : ℕ → Type 0 = λ n. LeftAt s (HaveFault whole) (at + n) in
          subst F size (past_plain s (HaveFault whole) at d c.in-Some.ensures.occurs (HaveFault whole) (λ left h. h) (c.loop-c.invariant.left string) (search rules) (search rules));
    }

pub returns-in_default-char_at : goal.returns-in_default-char_at
returns-in_default-char_at c = λ string.
    let s = c.args.source.now in
    let at = c.loop-c.at in
    let whole = escape_fault (c.args.span.m + 1) string.pieces in
    let x = at_backslash s (HaveFault whole) at c.in-Some.c c.in-Some.ensures.occurs (c.loop-c.invariant.left string) c.in-92.is in
    absurd (not_at_end s (HaveFault whole) at c.in-Some.c c.in-Some.ensures.occurs x c.in_default-char_at.ensures.occurs)

pub returns-in-None : goal.returns-in-None
returns-in-None c = λ string.
    let s = c.args.source.now in
    let at = c.loop-c.at in
    let d = c.in-Some-char_at.taken in
    let whole = escape_fault (c.args.span.m + 1) string.pieces in
    let x = at_backslash s (HaveFault whole) at c.in-Some.c c.in-Some.ensures.occurs (c.loop-c.invariant.left string) c.in-92.is in
    let found = strange whole at d x.left c.in-None.ensures (taken_holds s (HaveFault whole) at c.in-Some.c c.in-Some.ensures.occurs d c.in-Some-char_at.ensures.occurs x) in
    let size : length (encode_utf8 d) ≡ at + 1 + c.len_utf8.result - (at + 1) = omega (arith, length-encode d, c.len_utf8.ensures.value) in
    (omega arith, found ∙ ap (λ (n : ℕ). Some (at + 1, n)) size)

pub loop-c-preserved-in-Some-unescape : goal.loop-c-preserved-in-Some-unescape
loop-c-preserved-in-Some-unescape c =
    let s = c.args.source.now in
    let at = c.loop-c.at in
    let d = c.in-Some-char_at.taken in
    let size : length (encode_utf8 d) ≡ c.len_utf8.result = length-encode d ∙ sym c.len_utf8.ensures.value in
    record {
      between = let G : ℕ → Type 0 = λ n. IsCharBoundary s (at + 1 + n) in subst G (sym c.len_utf8.ensures.value) c.in-Some-char_at.ensures.span.end;
      left = λ string.
          let whole = escape_fault (c.args.span.m + 1) string.pieces in
          let x = at_backslash s (HaveFault whole) at c.in-Some.c c.in-Some.ensures.occurs (c.loop-c.invariant.left string) c.in-92.is in
          let F : ℕ → Type 0 = λ n. LeftAt s (HaveFault whole) (at + 1 + n) in
          subst F size (past_escape s (HaveFault whole) at c.in-Some.c c.in-Some.ensures.occurs d c.in-Some-char_at.ensures.occurs x (HaveFault whole) (λ left h. fault_after whole at d (encode_utf8 c.in-Some-unescape.field-0) left c.in-Some-unescape.ensures h));
    }

pub returns : goal.returns
returns c = λ string. absurd (inside_text c.args.source.now (HaveFault (escape_fault (c.args.span.m + 1) string.pieces)) c.loop-c.at (c.loop-c.invariant.left string) c.in_default.ensures.occurs)
