use Rattle.std.proofs.Common.{◌∷◌, ◌++◌, [], ap, sym, ◌∙◌, string_bytes}
use Rattle.serde.specs.Event as event
use Rattle.upon_serde.specs.Notes.{notes_of, events_from, begun}
use Rattle.upon_serde.proofs.Noting.{events_then}
use Rattle.upon_serde.proofs.recorder.Recorder.note_text.Goals as goal

pub returns-in-Begun : goal.returns-in-Begun
returns-in-Begun c =
    let notes = notes_of c.args.self.now in
    let sends = event.text (string_bytes c.args.text) ∷ [] in
    ap (λ key. events_from notes (begun key ++ sends)) (sym c.in-Begun.is) ∙ events_then notes (begun c.args.self.now.key) sends
