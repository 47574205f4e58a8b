use Rattle.std.proofs.Common.{◌∷◌, ◌++◌, [], Some, ap, sym, ◌∙◌}
use Rattle.std.proofs.lemmas.Result.{on_ok_weaker}
use Rattle.serde.specs.Event as event
use Rattle.upon_serde.specs.declared.note.Note.TheVariants as note
use Rattle.upon_serde.specs.Notes.{notes_of, begun}
use Rattle.upon_serde.proofs.Noting.{one_more, two_more, all_noted}
use Rattle.upon_serde.proofs.recorder.RecorderSerializer.end_key.Goals as goal

pub returns-in-Text : goal.returns-in-Text
returns-in-Text c =
    let old = c.args.self.now in
    let new = c.push.new.self in
    let ends = event.key_ends ∷ [] in
    let was = sym c.replace.ensures.value ∙ c.in-Text.is in
    let settled = ap begun (c.push.ensures.key ∙ c.replace.ensures.after) in
    let is = ap (λ key. begun key ++ ends) (sym was) in
    on_ok_weaker c.push.result (λ pushed.
    ap Some (one_more (notes_of old) (notes_of new) old.key new.key (note.TextKey c.in-Text.text) ends settled is pushed)) c.push.ensures.notes

pub returns-in_ok-push-in-Begun : goal.returns-in_ok-push-in-Begun
returns-in_ok-push-in-Begun c =
    let old = c.args.self.now in
    let mid = c.push-in-Begun.new.self in
    let new = c.push-in-Begun-2.new.self in
    let ends = event.key_ends ∷ [] in
    let was = sym c.replace.ensures.value ∙ c.in-Begun.is in
    let settled = ap begun (c.push-in-Begun-2.ensures.key ∙ c.push-in-Begun.ensures.key ∙ c.replace.ensures.after) in
    let is = ap (λ key. begun key ++ ends) (sym was) in
    on_ok_weaker c.push-in-Begun-2.result (λ pushed.
    ap Some (two_more (notes_of old) (notes_of mid) (notes_of new) old.key new.key note.BeginKey note.EndKey ends settled is c.in_ok-push-in-Begun.ensures.notes pushed)) c.push-in-Begun-2.ensures.notes

pub returns-in_default : goal.returns-in_default
returns-in_default c =
    let old = c.args.self.now in
    let new = c.push-in_default.new.self in
    let ends = event.key_ends ∷ [] in
    let was = c.replace.ensures.value in
    let none = all_noted old.key (λ begun. c.in_default.not-Begun (was ∙ begun)) (λ s text. c.in_default.not-Text s (was ∙ text)) in
    let settled = ap begun (c.push-in_default.ensures.key ∙ c.replace.ensures.after) in
    let is = ap (λ before. before ++ ends) (sym none) in
    on_ok_weaker c.push-in_default.result (λ pushed.
    ap Some (one_more (notes_of old) (notes_of new) old.key new.key note.EndKey ends settled is pushed)) c.push-in_default.ensures.notes
