use Rattle.std.proofs.Common.{◌++◌, [], ap, sym, ◌∙◌}
use Rattle.std.proofs.lemmas.List.{append-nil}
use Rattle.std.proofs.lemmas.Result.{on_ok_weaker}
use Rattle.upon_serde.specs.declared.note.Note.TheVariants as note
use Rattle.upon_serde.specs.Notes.{notes_of, begun}
use Rattle.upon_serde.proofs.Noting.{one_more, two_more}
use Rattle.upon_serde.proofs.recorder.Recorder.settle_key.Goals as goal

pub returns-in-Begun-clause-sent : goal.returns-in-Begun-clause-sent
returns-in-Begun-clause-sent c =
    let old = c.args.self.now in
    let new = c.push.new.self in
    let was = sym c.replace.ensures.value ∙ c.in-Begun.is in
    let settled = ap begun (c.push.ensures.key ∙ c.replace.ensures.after) in
    let is = ap (λ key. begun key ++ []) (sym was) in
    on_ok_weaker c.push.result (λ pushed.
    one_more (notes_of old) (notes_of new) old.key new.key note.BeginKey [] settled is pushed ∙ append-nil _) c.push.ensures.notes

pub returns-in_ok-push-in-Text-clause-sent : goal.returns-in_ok-push-in-Text-clause-sent
returns-in_ok-push-in-Text-clause-sent c =
    let old = c.args.self.now in
    let mid = c.push-in-Text.new.self in
    let new = c.push-in-Text-2.new.self in
    let was = sym c.replace.ensures.value ∙ c.in-Text.is in
    let settled = ap begun (c.push-in-Text-2.ensures.key ∙ c.push-in-Text.ensures.key ∙ c.replace.ensures.after) in
    let is = ap (λ key. begun key ++ []) (sym was) in
    on_ok_weaker c.push-in-Text-2.result (λ pushed.
    two_more (notes_of old) (notes_of mid) (notes_of new) old.key new.key note.BeginKey (note.Text c.in-Text.text) [] settled is c.in_ok-push-in-Text.ensures.notes pushed
    ∙ append-nil _) c.push-in-Text-2.ensures.notes
