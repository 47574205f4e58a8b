use Rattle.std.proofs.Common.{◌∷◌, ◌++◌, [], ap, sym, ◌∙◌}
use Rattle.serde.specs.Event as event
use Rattle.upon_serde.specs.Notes.{notes_of, events_from, begun}
use Rattle.upon_serde.proofs.Noting.{events_then}
use Rattle.upon_serde.proofs.recorder.Recorder.begin_key_in_key.Goals as goal

pub returns : goal.returns
returns c =
    let settled = c.settle_key.new.self in
    let sends = event.key_begins ∷ [] in
    (ap (λ before. events_from (notes_of settled) (before ++ sends)) (sym c.in_ok-settle_key.ensures.noted)
    ∙ events_then (notes_of settled) (begun settled.key) sends
    ∙ ap (λ before. before ++ sends) c.in_ok-settle_key.ensures.sent)
