-- What a note says that was sent, and what a recorder was sent.
use Rattle.std.specs.Prelude.{ℕ, List, [], ◌∷◌, ◌++◌, Some, Vec, length, string_bytes}
use Rattle.std.specs.declared.alloc.Global.{Global}
use Rattle.serde.specs.Event as event
use Rattle.serde.specs.Event.{Event}
use Rattle.upon_serde.specs.declared.note.Note.{Note}
use Rattle.upon_serde.specs.declared.note.Notes.{Notes}
use Rattle.upon_serde.specs.declared.note.Note.TheVariants as note
use Rattle.upon_serde.specs.declared.recorder.Key.{Key}
use Rattle.upon_serde.specs.declared.recorder.Key.TheVariants as key
use Rattle.upon_serde.specs.declared.recorder.Recorder.{Recorder}

-- the event that a note is of; of a whole key, the first
abbrev pub note_event : Note → Event
note_event note.Unit = event.nothing
note_event (note.Bool b) = event.boolean b
note_event (note.Signed z) = event.signed z
note_event (note.Unsigned n) = event.unsigned n
note_event (note.Char c) = event.character c
note_event (note.Text s) = event.text (string_bytes s)
note_event (note.Bytes bytes) = event.octets bytes.items
note_event (note.UnitVariant case name) = event.unit_variant (string_bytes name) case
note_event (note.BeginSeq length) = event.seq_begins length
note_event note.EndSeq = event.seq_ends
note_event (note.BeginMap length) = event.map_begins length
note_event (note.BeginRoom length room) = event.map_begins (Some length)
note_event note.EndMap = event.map_ends
note_event (note.FieldKey case name) = event.field_key (string_bytes name) case
note_event (note.VariantKey case name) = event.variant_key (string_bytes name) case
note_event note.BeginKey = event.key_begins
note_event note.EndKey = event.key_ends
note_event (note.TextKey s) = event.key_begins
note_event note.Flatten = event.flattens

-- the events that a note is of, and then others
abbrev pub noted : Note → List Event → List Event
noted (note.TextKey s) after = event.key_begins ∷ event.text (string_bytes s) ∷ event.key_ends ∷ after
noted n after = note_event n ∷ after

-- the events that notes are of, and then others
abbrev pub events_from : List Note → List Event → List Event
events_from [] after = after
events_from (n ∷ ns) after = noted n (events_from ns after)

-- the notes of blocks, one after the other
abbrev pub joined_notes : List (Vec Note Global) → List Note
joined_notes [] = []
joined_notes (block ∷ blocks) = block.items ++ joined_notes blocks

-- the notes that are left, and how many they are
abbrev pub notes_in : Notes → List Note
notes_in notes = notes.first.items ++ joined_notes notes.rest

abbrev pub notes_left : Notes → ℕ
notes_left notes = length (notes_in notes)

-- the events that notes are of
abbrev pub notes_events : Notes → List Event
notes_events notes = events_from (notes_in notes) []

-- the events of a key that are not noted yet
abbrev pub begun : Key → List Event
begun key.None = []
begun key.Begun = event.key_begins ∷ []
begun (key.Text s) = event.key_begins ∷ event.text (string_bytes s) ∷ []
begun key.Noted = []

-- what a recorder noted
abbrev pub notes_of : Recorder → List Note
notes_of recorder = joined_notes recorder.full ++ recorder.notes.items

-- what a recorder was sent
abbrev pub sent : Recorder → List Event
sent recorder = events_from (notes_of recorder) (begun recorder.key)
