-- Notes one after the other, and the events that they are of.
use Rattle.std.proofs.Common.{◌≡◌, List, [], ◌∷◌, ◌++◌, String, Vec, Global, refl, sym, ap, ◌∙◌}
use Rattle.std.proofs.lemmas.List.{append_assoc, append-nil}
use Rattle.serde.specs.Event as event
use Rattle.serde.specs.Event.{Event}
use Rattle.upon_serde.specs.declared.note.Note.{Note}
use Rattle.upon_serde.specs.declared.note.Note.TheVariants as note
use Rattle.upon_serde.specs.declared.recorder.Key.{Key}
use Rattle.upon_serde.specs.declared.recorder.Key.TheVariants as key
use Rattle.upon_serde.specs.Notes.{note_event, noted, events_from, joined_notes, begun}

-- a note of one event
pub noted_one : (n : Note) (after : List Event) → (note_event n ≡ event.key_begins → ⊥) → noted n after ≡ note_event n ∷ after
noted_one note.Unit after other = refl
noted_one (note.Bool b) after other = refl
noted_one (note.Signed z) after other = refl
noted_one (note.Unsigned k) after other = refl
noted_one (note.Char c) after other = refl
noted_one (note.Text s) after other = refl
noted_one (note.Bytes bytes) after other = refl
noted_one (note.UnitVariant case name) after other = refl
noted_one (note.BeginSeq length) after other = refl
noted_one note.EndSeq after other = refl
noted_one (note.BeginMap length) after other = refl
noted_one (note.BeginRoom length room) after other = refl
noted_one note.EndMap after other = refl
noted_one (note.FieldKey case name) after other = refl
noted_one (note.VariantKey case name) after other = refl
noted_one note.BeginKey after other = refl
noted_one note.EndKey after other = refl
noted_one (note.TextKey s) after other = absurd (other refl)
noted_one note.Flatten after other = refl

noted_then : (n : Note) (a b : List Event) → noted n a ++ b ≡ noted n (a ++ b)
noted_then note.Unit a b = refl
noted_then (note.Bool t) a b = refl
noted_then (note.Signed z) a b = refl
noted_then (note.Unsigned k) a b = refl
noted_then (note.Char c) a b = refl
noted_then (note.Text s) a b = refl
noted_then (note.Bytes bytes) a b = refl
noted_then (note.UnitVariant case name) a b = refl
noted_then (note.BeginSeq length) a b = refl
noted_then note.EndSeq a b = refl
noted_then (note.BeginMap length) a b = refl
noted_then (note.BeginRoom length room) a b = refl
noted_then note.EndMap a b = refl
noted_then (note.FieldKey case name) a b = refl
noted_then (note.VariantKey case name) a b = refl
noted_then note.BeginKey a b = refl
noted_then note.EndKey a b = refl
noted_then (note.TextKey s) a b = refl
noted_then note.Flatten a b = refl

-- more events after the notes'
pub events_then : (ns : List Note) (a b : List Event) → events_from ns (a ++ b) ≡ events_from ns a ++ b
events_then [] a b = refl
events_then (n ∷ ns) a b = ap (noted n) (events_then ns a b) ∙ sym (noted_then n (events_from ns a) b)

-- notes after notes
pub events_more : (ns ms : List Note) (after : List Event) → events_from (ns ++ ms) after ≡ events_from ns (events_from ms after)
events_more [] ms after = refl
events_more (n ∷ ns) ms after = ap (noted n) (events_more ns ms after)

-- a note more, of events of which some were begun
pub one_more : (old new : List Note) (before after : Key) (n : Note) (more : List Event) → begun after ≡ [] → noted n [] ≡ begun before ++ more → new ≡ old ++ n ∷ [] → events_from new (begun after) ≡ events_from old (begun before) ++ more
one_more old new before after n more settled is pushed =
    (λ i. events_from (pushed i) (settled i)) ∙ events_more old (n ∷ []) [] ∙ ap (events_from old) is ∙ events_then old (begun before) more

-- two notes more
pub two_more : (old mid new : List Note) (before after : Key) (n m : Note) (more : List Event) → begun after ≡ [] → noted n (noted m []) ≡ begun before ++ more → mid ≡ old ++ n ∷ [] → new ≡ mid ++ m ∷ [] → events_from new (begun after) ≡ events_from old (begun before) ++ more
two_more old mid new before after n m more settled is first second =
    (λ i. events_from (second i) (settled i)) ∙ events_more mid (m ∷ []) [] ∙ ap (λ ns. events_from ns (noted m [])) first ∙ events_more old (n ∷ []) (noted m []) ∙ ap (events_from old) is ∙ events_then old (begun before) more

-- a key of which all is noted, or none is open
pub all_noted : (k : Key) → (k ≡ key.Begun → ⊥) → ((s : String Global) → k ≡ key.Text s → ⊥) → begun k ≡ []
all_noted key.None begun text = refl
all_noted key.Begun begun text = absurd (begun refl)
all_noted (key.Text s) begun text = absurd (text s refl)
all_noted key.Noted begun text = refl

-- a block more
pub joined_end : (blocks : List (Vec Note Global)) (block : Vec Note Global) → joined_notes (blocks ++ block ∷ []) ≡ joined_notes blocks ++ block.items
joined_end [] block = append-nil block.items
joined_end (first ∷ blocks) block =
    ap (λ notes. first.items ++ notes) (joined_end blocks block) ∙ sym (append_assoc first.items (joined_notes blocks) block.items)
