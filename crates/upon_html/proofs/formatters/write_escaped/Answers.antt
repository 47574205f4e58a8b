use Rattle.std.proofs.Common.{◌≡◌, ◌+◌, ◌<◌, Some, None, length, get_or, arith, refl, sym, subst, ap, ◌∙◌}
use Rattle.std.proofs.lemmas.Str.{IsCharBoundary-start, IsCharBoundary-after_ascii}
use Rattle.std.specs.Str.{IsCharBoundary}
use Rattle.upon_fmt.specs.Formatter.{text_of, is_marked}
use Rattle.upon_html.specs.Escape.{reference_of}
use Rattle.upon_html.proofs.EscapeLaws.{reference_ascii}
use Rattle.upon_html.proofs.Runs.{Keeps, waits, wrote_both}
use Rattle.upon_html.proofs.formatters.write_escaped.Goals as goal
use Rattle.upon_html.proofs.formatters.write_escaped.Goals.{in-Some+in_ok-write_str+in_ok-write_str-2, in_default}

pub loop-at-init : goal.loop-at-init
loop-at-init c = record {
  within = omega arith;
  boundary = IsCharBoundary-start c.args.text.now c.utf8.text;
  mark = refl;
  keeps = refl;
}

pub loop-at-preserved : goal.loop-at-preserved
loop-at-preserved c =
    let text = c.args.text.now in
    let at = c.loop-at.at in
    let same = c.as_bytes-bytes.ensures.value in
    let inside : at < length text = omega (arith, c.loop-at-test.true, ap length same, c.as_bytes-bytes.ensures.len) in
    elim c.match-reference.branch [
      | in-Some+in_ok-write_str+in_ok-write_str-2 w ↦
          let is : Some w.in-Some.reference.now ≡ reference_of (get_or text at 0) = w.in-Some.ensures ∙ ap (λ b. reference_of (get_or b at 0)) same in
          let ascii : get_or text at 0 < 128 = reference_ascii (get_or text at 0) w.in-Some.reference.now (sym is) in
          let one = w.in_ok-write_str.ensures in
          let two = w.in_ok-write_str-2.ensures in
          record {
            within = omega (arith, w.start-is);
            boundary = subst (IsCharBoundary text) (sym w.start-is) (IsCharBoundary-after_ascii text at c.utf8.text inside ascii);
            mark = ap is_marked w.f-is ∙ (two.1 ∙ (sym one.0 ∙ c.loop-at.invariant.mark));
            keeps =
                let written : Keeps (text_of c.args.f.now) (text_of w.write_str-in-Some.new.self) text (at + 1) (at + 1) =
                wrote_both (text_of c.args.f.now) (text_of c.loop-at.f) (text_of w.write_str.new.self) (text_of w.write_str-in-Some.new.self) w.range.result.now text w.in-Some.reference.now c.loop-at.start at inside is one.2 w.range.ensures.value two.2 c.loop-at.invariant.keeps in
                subst (λ s. Keeps (text_of c.args.f.now) (text_of c.match-reference.f) text s (at + 1)) (sym w.start-is)
                (subst (λ f. Keeps (text_of c.args.f.now) (text_of f) text (at + 1) (at + 1)) (sym w.f-is) written);
          }
      | in_default w ↦
          let is : None ≡ reference_of (get_or text at 0) = w.in_default.ensures ∙ ap (λ b. reference_of (get_or b at 0)) same in
          record {
            within = omega (arith, w.start-is, c.loop-at.invariant.within);
            boundary = subst (IsCharBoundary text) (sym w.start-is) c.loop-at.invariant.boundary;
            mark = ap is_marked w.f-is ∙ c.loop-at.invariant.mark;
            keeps =
                subst (λ s. Keeps (text_of c.args.f.now) (text_of c.match-reference.f) text s (at + 1)) (sym w.start-is)
                (subst (λ f. Keeps (text_of c.args.f.now) (text_of f) text c.loop-at.start (at + 1)) (sym w.f-is)
                (waits (text_of c.args.f.now) (text_of c.loop-at.f) text c.loop-at.start at c.loop-at.invariant.within inside (sym is) c.loop-at.invariant.keeps));
          }
    ]
