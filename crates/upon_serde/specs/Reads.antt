-- What events begin with: a datum, the rest of a sequence or of a map, a key. Other events come after.
use Rattle.std.specs.Prelude.{◌≡◌, ◌⊎◌, ℕ, List, ◌∷◌, Option, Some, None, map, String, string_bytes}
use Rattle.std.specs.declared.alloc.Global.{Global}
use Rattle.serde.specs.Event as event
use Rattle.serde.specs.Event.{Event}
use Rattle.upon_types.specs.Val.{Val}
use Rattle.upon_types.specs.View.{view}
use Rattle.upon_types.specs.declared.value.Value.{Value}
use Rattle.upon_serde.specs.Data.{EntryKey, signed_key, unsigned_key, character_key, text_key, unit_variant_key, key_events, key_text, Datum, unit, truth, signed, unsigned, character, text, octets, unit_variant, events, datum_value, Data, item_events, data_values, Members, member_events, with_members, Pairs}

-- a datum, which is this value
abbrev pub ReadsDatum : List Event → List Event → Val → Type 0
ReadsDatum before after v = (d : Datum) × (before ≡ events d after) × (datum_value d ≡ v)

-- the rest of a sequence, whose items are these values
abbrev pub ReadsItems : List Event → List Event → List Val → Type 0
ReadsItems before after vs = (ds : Data) × (before ≡ item_events ds after) × (data_values ds ≡ vs)

-- the rest of a map, which makes the new pairs of the old ones
abbrev pub ReadsEntries : List Event → List Event → Pairs → Pairs → Type 0
ReadsEntries before after old new = (ms : Members) × (before ≡ member_events ms after) × (with_members ms old ≡ new)

-- a map that is flattened into another, or a unit in its place
abbrev pub ReadsFlattened : List Event → List Event → Pairs → Pairs → Type 0
ReadsFlattened before after old new =
    ((length : Option ℕ) × (inside : List Event) × (before ≡ event.map_begins length ∷ inside)
    × ReadsEntries inside after old new)
    ⊎ ((before ≡ event.nothing ∷ after) × (old ≡ new))

-- a key, which is this text
abbrev pub ReadsKey : List Event → List Event → List ℕ → Type 0
ReadsKey before after word = (key : EntryKey) × (before ≡ key_events key after) × (key_text key ≡ word)

-- the datum that one event is
abbrev pub datum_of : Event → Option Datum
datum_of event.nothing = Some unit
datum_of (event.boolean b) = Some (truth b)
datum_of (event.signed z) = Some (signed z)
datum_of (event.unsigned n) = Some (unsigned n)
datum_of (event.character c) = Some (character c)
datum_of (event.text s) = Some (text s)
datum_of (event.octets bytes) = Some (octets bytes)
datum_of (event.unit_variant name case) = Some (unit_variant name case)
datum_of _ = None

-- the key that one event is, between the two that begin and end a key
abbrev pub event_key : Event → Option EntryKey
event_key (event.signed z) = Some (signed_key z)
event_key (event.unsigned n) = Some (unsigned_key n)
event_key (event.character c) = Some (character_key c)
event_key (event.text s) = Some (text_key s)
event_key (event.unit_variant name case) = Some (unit_variant_key name case)
event_key _ = None

-- the entries of a map as pairs
abbrev pub entry_pairs : List (String Global × Value) → Pairs
entry_pairs es = map (λ e. (string_bytes e.0, view e.1)) es
