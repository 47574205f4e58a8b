use Rattle.std.proofs.Common.{◌≡◌, ◌≤◌, ◌++◌, ◌+◌, length, take, drop, sym, ap, subst, ◌∙◌, append_assoc, arith}
use Rattle.std.proofs.lemmas.Grind.{common_steps}
use Rattle.std.specs.Str.{IsCharBoundary}
use Rattle.std.specs.Str.Iter.{chars_rest}
use Rattle.upon_tool_messages.specs.Terminal.{shown_text}
use Rattle.upon_tool_messages.proofs.ShownTexts.{after_utf8, cut_after, cut_before, left_after, passed_after, plain_first, all_plain, spelled_first, spelled_there, within_after}
use Rattle.upon_tool_messages.proofs.terminal.first_spelled.Goals as goal

pub range-requires-clause-end_boundary : goal.range-requires-clause-end_boundary
range-requires-clause-end_boundary c =
    cut_before c.args.text.now _ (chars_rest c.next.new.self) c.loop-letter.len c.in-Some.letter c.loop-letter.invariant.within c.loop-letter.invariant.left c.loop-letter.invariant.utf8 c.in-Some.ensures.steps.0

pub range_from-requires : goal.range_from-requires
range_from-requires c = λ _. subst (λ n. IsCharBoundary c.args.text.now (c.loop-letter.len + n)) (sym c.len_utf8.ensures.value)
    (cut_after c.args.text.now _ (chars_rest c.next.new.self) c.loop-letter.len c.in-Some.letter c.loop-letter.invariant.within c.loop-letter.invariant.left c.loop-letter.invariant.utf8 c.in-Some.ensures.steps.0)

pub returns-then-is_spelled-clause-parts : goal.returns-then-is_spelled-clause-parts
returns-then-is_spelled-clause-parts c =
    let rest = chars_rest c.loop-letter.letter-iterator in
    let after = chars_rest c.next.new.self in
    let letter = c.in-Some.letter in
    let spelled = spelled_first rest after letter c.loop-letter.invariant.utf8 c.in-Some.ensures.steps.0 (sym c.is_spelled.ensures ∙ c.if-is_spelled.true) in
    let left = left_after c.args.text.now rest after c.loop-letter.len letter c.loop-letter.invariant.within c.loop-letter.invariant.left c.loop-letter.invariant.utf8 c.in-Some.ensures.steps.0 in
    let n = c.len_utf8.ensures.value in
    let front : c.range.result.now ≡ take c.loop-letter.len c.args.text.now = grind (arith, common_steps) in
    let back : c.range_from.result.now ≡ drop (c.loop-letter.len + c.len_utf8.result) c.args.text.now = grind (arith, common_steps) in
    spelled_there _ rest after letter c.args.text.now _ _ c.loop-letter.invariant.shown spelled front
    (back ∙ (ap (λ n. drop (c.loop-letter.len + n) c.args.text.now) n ∙ left))

pub loop-letter-preserved : goal.loop-letter-preserved
loop-letter-preserved c =
    let rest = chars_rest c.loop-letter.letter-iterator in
    let after = chars_rest c.next.new.self in
    let letter = c.in-Some.letter in
    let n = c.len_utf8.ensures.value in
    let is = c.in-Some.ensures.steps.0 in
    let within = c.loop-letter.invariant.within in
    let left = c.loop-letter.invariant.left in
    let utf8 = c.loop-letter.invariant.utf8 in
    let text = c.args.text.now in
    let len = c.loop-letter.len in
    record {
      within = subst (λ n. len + n ≤ length text) (sym n) (within_after text rest after len letter within left utf8 is);
      left = ap (λ n. drop (len + n) text) n ∙ left_after text rest after len letter within left utf8 is;
      utf8 = after_utf8 text rest after len letter within left utf8 is;
      shown = c.loop-letter.invariant.shown
          ∙ (ap (λ l. take len text ++ l) (plain_first rest after letter utf8 is (sym c.is_spelled.ensures ∙ c.if-is_spelled.false))
          ∙ (sym (append_assoc (take len text) _ (shown_text after))
          ∙ ap (λ l. l ++ shown_text after) (sym (ap (λ n. take (len + n) text) n ∙ passed_after text rest after len letter within left utf8 is))));
    }

pub returns-clause-parts : goal.returns-clause-parts
returns-clause-parts c =
    all_plain c.args.text.now _ _ c.loop-letter.invariant.left c.in-None.ensures.steps.0.0 c.loop-letter.invariant.shown
