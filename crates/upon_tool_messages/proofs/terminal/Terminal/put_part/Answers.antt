use Rattle.std.proofs.Common.{rules, ◌++◌, ◌∷◌, [], true, Some, refl, sym, ap, ◌∙◌, append_assoc, append-nil, lit<}
use Rattle.std.proofs.lemmas.Result.{on_ok_weaker}
use Rattle.std.proofs.lemmas.Str.Pattern.{split_parts}
use Rattle.upon_tool_messages.proofs.HandedOn.{handed_next, piece_held}
use Rattle.upon_tool_messages.proofs.terminal.Terminal.put_part.Goals as goal

pub loop-end-init : goal.loop-end-init
loop-end-init g c = (
  c.utf8.part,
  record {
    paints = c.if-not-self.false;
    done = ([], refl, piece_held _ _ _ _ [] (sym (append-nil _)));
  },
)

pub loop-end-preserved : goal.loop-end-preserved
loop-end-preserved g c =
    let done = c.loop-end.invariant.1.done in
    let parts = split_parts 10 c.loop-end.rest.now (Some (c.in-Some.end, c.in-Some.after)) c.in-Some.ensures.cases (lit< tt) in (
      search rules,
      record {
        paints = c.in_ok-end_line.ensures.paints;
        done = (
          done.0 ++ (c.in-Some.end.now ++ 10 ∷ []),
          done.1 ∙ ap (λ l. done.0 ++ l) (parts.0 ∙ sym (append_assoc c.in-Some.end.now (10 ∷ []) c.in-Some.after.now)) ∙ sym (append_assoc done.0 (c.in-Some.end.now ++ 10 ∷ []) c.in-Some.after.now),
          handed_next _ true _ _ _ _ _ _ _ _ _ (sym c.if-not-self.false) refl done.2 c.in_ok-end_line.ensures.shown,
        );
      },
    )

pub returns-else-is_empty-clause-shown : goal.returns-else-is_empty-clause-shown
returns-else-is_empty-clause-shown g c =
    let done = c.loop-end.invariant.1.done in
    on_ok_weaker c.hold-else-is_empty.result
    (λ shown. handed_next _ _ _ _ _ _ _ _ _ _ _ (c.loop-end.invariant.1.paints ∙ sym c.if-not-self.false) (sym done.1) done.2 shown) c.hold-else-is_empty.ensures.shown
