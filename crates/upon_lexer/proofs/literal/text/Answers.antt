use Rattle.std.proofs.Common.{ℕ, ◌+◌, ◌≡◌, List, [], ◌∷◌, ◌++◌, string_bytes, arith, rules, sym, ◌∙◌, subst, length, encode_utf8}
use Rattle.std.specs.Str.{IsCharBoundary}
use Rattle.std.proofs.lemmas.Str.{length-encode}
use Rattle.upon_language_spec.specs.Inside.{pieces_text}
use Rattle.upon_language_spec.specs.Literal.{text_of_pieces}
use Rattle.upon_language_spec.proofs.Offsets.Bytes.{behind_byte, first_of}
use Rattle.upon_lexer.proofs.StringPieces.{LeftAt, HaveText, left_at_start, at_quote, past_plain, at_backslash, not_at_end, taken_holds, past_escape, inside_text, text_start, text_plain, text_escape, text_end, none_strange}
use Rattle.upon_lexer.proofs.literal.text.Goals as goal

pub loop-c-init : goal.loop-c-init
loop-c-init c =
    let s = c.args.source.now in
    let m = c.args.span.m in
    let q = c.requires.string in
    record {
      between = behind_byte s m 34 (omega arith) c.utf8.source c.requires.span.start (first_of s m 34 (pieces_text q.pieces ++ 34 ∷ []) q.occurs);
      left = λ string.
          let whole = text_of_pieces string.pieces in
          let F : List ℕ → Type 0 = λ x. LeftAt s (HaveText whole x) (m + 1) in
          subst F (sym c.new-text.ensures.bytes) (left_at_start s (HaveText whole []) m c.args.span.n string (text_start string.pieces (m + 1) (c.requires.escapes string)));
    }

pub returns-in-34 : goal.returns-in-34
returns-in-34 c =
    let q = c.requires.string in
    let out = string_bytes c.loop-c.text in
    let whole = text_of_pieces q.pieces in
    record {
      string = q;
      value = text_end whole out c.loop-c.at (at_quote c.args.source.now (HaveText whole out) c.loop-c.at c.in-Some.c c.in-Some.ensures.occurs (c.loop-c.invariant.left q) c.in-34.is);
    }

pub returns-in_default-char_at : goal.returns-in_default-char_at
returns-in_default-char_at c =
    let s = c.args.source.now in
    let P = HaveText (text_of_pieces c.requires.string.pieces) (string_bytes c.loop-c.text) in
    let x = at_backslash s P c.loop-c.at c.in-Some.c c.in-Some.ensures.occurs (c.loop-c.invariant.left c.requires.string) c.in-92.is in
    absurd (not_at_end s P c.loop-c.at c.in-Some.c c.in-Some.ensures.occurs x c.in_default-char_at.ensures.occurs)

pub returns-in_default-unescape : goal.returns-in_default-unescape
returns-in_default-unescape c =
    let s = c.args.source.now in
    let at = c.loop-c.at in
    let d = c.in-Some-char_at.taken in
    let whole = text_of_pieces c.requires.string.pieces in
    let out = string_bytes c.loop-c.text in
    let P = HaveText whole out in
    let x = at_backslash s P at c.in-Some.c c.in-Some.ensures.occurs (c.loop-c.invariant.left c.requires.string) c.in-92.is in
    absurd (none_strange whole out at d x.left c.in_default-unescape.ensures (taken_holds s P at c.in-Some.c c.in-Some.ensures.occurs d c.in-Some-char_at.ensures.occurs x))

pub loop-c-preserved-in-92 : goal.loop-c-preserved-in-92
loop-c-preserved-in-92 c =
    let s = c.args.source.now in
    let at = c.loop-c.at in
    let d = c.in-Some-char_at.taken in
    let out = string_bytes c.loop-c.text in
    let meant = encode_utf8 c.in-Some-unescape.meant in
    let place : at + 1 + length (encode_utf8 d) ≡ at + (1 + c.len_utf8.result) = omega (arith, length-encode d, c.len_utf8.ensures.value) in
    record {
      between = let G : ℕ → Type 0 = λ n. IsCharBoundary s n in subst G (omega (arith, c.len_utf8.ensures.value)) c.in-Some-char_at.ensures.span.end;
      left = λ string.
          let whole = text_of_pieces string.pieces in
          let P = HaveText whole out in
          let x = at_backslash s P at c.in-Some.c c.in-Some.ensures.occurs (c.loop-c.invariant.left string) c.in-92.is in
          let next = past_escape s P at c.in-Some.c c.in-Some.ensures.occurs d c.in-Some-char_at.ensures.occurs x (HaveText whole (out ++ meant)) (λ left h. text_escape whole out at d meant left c.in-Some-unescape.ensures h) in
          let F : ℕ → Type 0 = λ n. LeftAt s (HaveText whole (out ++ meant)) n in
          let G : List ℕ → Type 0 = λ y. LeftAt s (HaveText whole y) (at + (1 + c.len_utf8.result)) in
          subst G (sym c.in_ok-push-in-92.ensures.bytes) (subst F place next);
    }

pub loop-c-preserved : goal.loop-c-preserved
loop-c-preserved c =
    let s = c.args.source.now in
    let at = c.loop-c.at in
    let d = c.in-Some.c in
    let out = string_bytes c.loop-c.text in
    let size : length (encode_utf8 d) ≡ c.len_utf8-at.result = length-encode d ∙ sym c.len_utf8-at.ensures.value in
    record {
      between = let G : ℕ → Type 0 = λ n. IsCharBoundary s (at + n) in subst G (sym c.len_utf8-at.ensures.value) c.in-Some.ensures.span.end;
      left = λ string.
          let whole = text_of_pieces string.pieces in
          let next = past_plain s (HaveText whole out) at d c.in-Some.ensures.occurs (HaveText whole (out ++ encode_utf8 d)) (λ left h. text_plain whole out at d left h) (c.loop-c.invariant.left string) (search rules) (search rules) in
          let F : ℕ → Type 0 = λ n. LeftAt s (HaveText whole (out ++ encode_utf8 d)) (at + n) in
          let G : List ℕ → Type 0 = λ y. LeftAt s (HaveText whole y) (at + c.len_utf8-at.result) in
          subst G (sym c.in_ok-push-in_default-c.ensures.bytes) (subst F size next);
    }

pub returns : goal.returns
returns c =
    let P = HaveText (text_of_pieces c.requires.string.pieces) (string_bytes c.loop-c.text) in
    absurd (inside_text c.args.source.now P c.loop-c.at (c.loop-c.invariant.left c.requires.string) c.in_default.ensures.occurs)
