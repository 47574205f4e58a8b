use Rattle.std.proofs.Common.{◌∷◌, ◌++◌, [], Some, ap, sym, ◌∙◌}
use Rattle.serde.specs.Event as event
use Rattle.upon_serde.specs.Notes.{notes_of, events_from, begun}
use Rattle.upon_serde.proofs.Noting.{events_then}
use Rattle.upon_serde.proofs.recorder.RecorderSerializer.begin_key.Goals as goal

pub returns-in-None : goal.returns-in-None
returns-in-None c =
    let notes = notes_of c.args.self.now in
    let begins = event.key_begins ∷ [] in
    ap Some (ap (λ key. events_from notes (begun key ++ begins)) (sym c.in-None.is) ∙ events_then notes (begun c.args.self.now.key) begins)
