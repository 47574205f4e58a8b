use Rattle.std.proofs.Common.{rules, ◌≡◌, ◌++◌, [], refl, sym, ap, ◌∙◌, append_assoc, append-nil}
use Rattle.std.proofs.lemmas.Result.{on_ok_weaker}
use Rattle.std.specs.Char.Escape.{escape_unicode}
use Rattle.upon_tool_messages.specs.Terminal.{shown_text}
use Rattle.upon_tool_messages.proofs.HandedOn.{handed_next, piece_held}
use Rattle.upon_tool_messages.proofs.terminal.Terminal.put.Goals as goal

pub loop-before-init : goal.loop-before-init
loop-before-init g c = (
  c.utf8.text,
  record {
    paints = refl;
    done = ([], refl, piece_held _ _ _ _ [] (sym (append-nil _)));
  },
)

pub loop-before-preserved : goal.loop-before-preserved
loop-before-preserved g c =
    let done = c.loop-before.invariant.1.done in
    let before = c.in-Some.before.now in
    let letter = c.in-Some.letter in
    let after = c.in-Some.after.now in
    let same = c.loop-before.invariant.1.paints in
    let paints = c.in_ok-put_part.ensures.paints ∙ same in
    let one = handed_next _ _ _ _ _ _ _ _ done.0 before (done.0 ++ before) same refl done.2 c.in_ok-put_part.ensures.shown in (
      search rules,
      record {
        paints = c.in_ok-put_spelled.ensures.paints ∙ paints;
        done = (
          (done.0 ++ before) ++ escape_unicode letter,
          done.1 ∙ (ap (λ l. done.0 ++ l) c.in-Some.ensures.parts ∙ (sym (append_assoc done.0 before (escape_unicode letter ++ shown_text after))
              ∙ sym (append_assoc (done.0 ++ before) (escape_unicode letter) (shown_text after)))),
          handed_next _ _ _ _ _ _ _ _ (done.0 ++ before) (escape_unicode letter) _ paints refl one c.in_ok-put_spelled.ensures.shown,
        );
      },
    )

pub returns-clause-shown : goal.returns-clause-shown
returns-clause-shown g c =
    let done = c.loop-before.invariant.1.done in
    let plain : shown_text c.loop-before.rest.now ≡ c.loop-before.rest.now = search rules in
    on_ok_weaker c.put_part-2.result
    (λ shown. handed_next _ _ _ _ _ _ _ _ done.0 _ _ c.loop-before.invariant.1.paints (ap (λ l. done.0 ++ l) (sym plain) ∙ sym done.1) done.2 shown) c.put_part-2.ensures.shown
