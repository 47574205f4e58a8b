use Rattle.std.proofs.Common.{◌≡◌, ◌+◌, ◌≤◌, ◌++◌, length, drop, length-drop, arith, sym, subst, ap, ◌∙◌}
use Rattle.std.proofs.lemmas.Grind.{common_steps}
use Rattle.std.proofs.lemmas.Str.{IsCharBoundary-start, IsCharBoundary-past_char, IsUtf8-drop, drop_past_char, length-encode}
use Rattle.std.specs.Char.{encode_utf8, len_utf8}
use Rattle.std.specs.Str.{IsCharBoundary}
use Rattle.std.specs.Str.Iter.{char_indices_offset, char_indices_rest}
use Rattle.upon_fmt.specs.Formatter.{text_of}
use Rattle.upon_quote.specs.Escape.{escape_text}
use Rattle.upon_quote.proofs.Runs.{Keeps, waiting, begins, finishes, waits, wrote}
use Rattle.upon_quote.proofs.escapes.write_quoted.Goals as goal

pub loop-at-init : goal.loop-at-init
loop-at-init g c =
    let text = c.args.text.now in
    let same = c.into_iter-at-iterator.ensures.into_iter_gives in
    let zero : char_indices_offset c.into_iter-at-iterator.result ≡ 0 = ap char_indices_offset same ∙ c.char_indices-at-items.ensures.offset in
    let begin = IsCharBoundary-start text c.utf8.text in
    let out = text_of c.args.f.now in
    record {
      within = omega arith;
      boundary = begin;
      place = subst (IsCharBoundary text) (sym zero) begin;
      left = ap char_indices_rest same ∙ (c.char_indices-at-items.ensures.rest ∙ ap (λ n. drop n text) (sym zero));
      keeps = λ mark. (mark, subst (λ n. Keeps g.L.Language.escape_of out out text 0 n) (sym zero) (begins g.L.Language.escape_of out text));
    }

pub loop-at-preserved-in-Some-escape : goal.loop-at-preserved-in-Some-escape
loop-at-preserved-in-Some-escape g c =
    let text = c.args.text.now in
    let before = c.loop-at.invariant in
    let at = char_indices_offset c.loop-at.at-iterator in
    let x = c.in-Some.character in
    let step = c.in-Some.ensures.steps in
    let e : drop at text ≡ encode_utf8 x ++ char_indices_rest c.next.new.self = sym before.left ∙ step.1 in
    let next : char_indices_offset c.next.new.self ≡ at + len_utf8 x = step.2 ∙ ap (λ k. at + k) (length-encode x) in
    let start : c.in-Some.at + c.len_utf8.result ≡ at + len_utf8 x = ap (λ n. n + c.len_utf8.result) step.0 ∙ ap (λ k. at + k) c.len_utf8.ensures.value in
    let left = IsUtf8-drop text at c.utf8.text before.place in
    let past = IsCharBoundary-past_char text (char_indices_rest c.next.new.self) at x before.place.0 left e in
    let out = text_of c.args.f.now in
    let out' = text_of c.write_escape.new.f in
    let escape_of = g.L.Language.escape_of in
    record {
      within = omega (arith, next, start);
      boundary = subst (IsCharBoundary text) (sym start) past;
      place = subst (IsCharBoundary text) (sym next) past;
      left = sym (drop_past_char text (char_indices_rest c.next.new.self) at x e) ∙ ap (λ k. drop k text) (sym next);
      keeps = λ mark.
          let one = c.in_ok-write_str.ensures in
          let two = c.in_ok-write_escape.ensures mark in
          let kept = before.keeps one.0 in
          let slice = c.range.ensures.value ∙ ap (waiting text c.loop-at.start) step.0 in
          let written : Keeps escape_of out out' text (at + len_utf8 x) (at + len_utf8 x) =
          wrote escape_of out (text_of c.loop-at.f) (text_of c.write_str.new.self) out' c.range.result.now text (char_indices_rest c.next.new.self) (escape_text x c.in-Some-escape.escape) c.loop-at.start at x left e (sym c.in-Some-escape.ensures) slice one.2 two.1 kept.1 in (
            kept.0,
            subst (λ s. Keeps escape_of out out' text s (char_indices_offset c.next.new.self)) (sym start)
                (subst (Keeps escape_of out out' text (at + len_utf8 x)) (sym next) written),
          );
    }

pub loop-at-preserved : goal.loop-at-preserved
loop-at-preserved g c =
    let text = c.args.text.now in
    let before = c.loop-at.invariant in
    let at = char_indices_offset c.loop-at.at-iterator in
    let x = c.in-Some.character in
    let step = c.in-Some.ensures.steps in
    let e : drop at text ≡ encode_utf8 x ++ char_indices_rest c.next.new.self = sym before.left ∙ step.1 in
    let next : char_indices_offset c.next.new.self ≡ at + len_utf8 x = step.2 ∙ ap (λ k. at + k) (length-encode x) in
    let left = IsUtf8-drop text at c.utf8.text before.place in
    let out = text_of c.args.f.now in
    let escape_of = g.L.Language.escape_of in
    record {
      within = omega (arith, next, before.within);
      boundary = before.boundary;
      place = subst (IsCharBoundary text) (sym next) (IsCharBoundary-past_char text (char_indices_rest c.next.new.self) at x before.place.0 left e);
      left = sym (drop_past_char text (char_indices_rest c.next.new.self) at x e) ∙ ap (λ k. drop k text) (sym next);
      keeps = λ mark.
          let kept = before.keeps mark in (
            kept.0,
            subst (Keeps escape_of out (text_of c.loop-at.f) text c.loop-at.start) (sym next)
                (waits escape_of out (text_of c.loop-at.f) text (char_indices_rest c.next.new.self) c.loop-at.start at x before.within before.place.0 left e (sym c.in_default.ensures) kept.1),
          );
    }

pub returns : goal.returns
returns g c =
    let text = c.args.text.now in
    let before = c.loop-at.invariant in
    let at = char_indices_offset c.loop-at.at-iterator in
    let all : length text ≤ at = omega (arith, length-drop at text, ap length before.left, c.in-None.ensures.steps.0) in
    finishes g.L.Language.escape_of c.args.f.now c.loop-at.f c.write_str-2.new.self c.write_str-2.result c.range_from.result.now text c.loop-at.start at all c.range_from.ensures.value before.keeps c.write_str-2.ensures

-- the search finds no proof of this, and takes long
pub loop-at-smaller-in-Some-escape : goal.loop-at-smaller-in-Some-escape
loop-at-smaller-in-Some-escape = grind (arith, common_steps)
