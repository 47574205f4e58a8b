use Rattle.std.proofs.Common.{ap, sym, ◌∙◌}
use Rattle.upon_serde.specs.Notes.{events_from, joined_notes}
use Rattle.upon_serde.proofs.Noting.{joined_end}
use Rattle.upon_serde.proofs.recorder.Recorder.into_notes.Goals as goal

pub returns : goal.returns
returns c =
    let settled = c.settle.new.self in
    let notes = c.new.ensures ∙ ap joined_notes c.in_ok-push_back.ensures.items ∙ joined_end settled.full settled.notes in
    let none = sym c.in_ok-settle.ensures.noted in
    (λ i. events_from (notes i) (none i)) ∙ c.in_ok-settle.ensures.sent
