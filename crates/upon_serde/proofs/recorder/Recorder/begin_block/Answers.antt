use Rattle.std.proofs.Common.{◌++◌, ap, ◌∙◌}
use Rattle.std.proofs.lemmas.List.{append-nil}
use Rattle.upon_serde.specs.Notes.{joined_notes}
use Rattle.upon_serde.proofs.Noting.{joined_end}
use Rattle.upon_serde.proofs.recorder.Recorder.begin_block.Goals as goal

pub returns-in_ok-push_back-clause-notes : goal.returns-in_ok-push_back-clause-notes
returns-in_ok-push_back-clause-notes c =
    let full = c.args.self.now.full in
    let more = ap joined_notes c.in_ok-push_back.ensures.items ∙ joined_end full c.replace-full.result in
    let none = ap (λ block. block.items) c.replace-full.ensures.after ∙ c.in_ok-block.ensures.items in
    (λ i. more i ++ none i) ∙ append-nil _ ∙ ap (λ block. joined_notes full ++ block.items) c.replace-full.ensures.value
