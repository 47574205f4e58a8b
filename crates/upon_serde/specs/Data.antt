-- Serde's data, what they are when they are written, and the value that each is.
use Rattle.std.specs.Prelude.{ℕ, ℤ, pos, List, [], ◌∷◌, Bool, Option, map, decimal, encode_utf8}
use Rattle.std.specs.BTreeMap.{insert_entry}
use Rattle.std.specs.Cmp.Lexicographic.{slice_cmp}
use Rattle.std.specs.Ordering.{nat_cmp}
use Rattle.std.specs.Fmt.{signed_decimal}
use Rattle.serde.specs.Event as event
use Rattle.serde.specs.Event.{Event}
use Rattle.serde.specs.Spelling.{spelled}
use Rattle.serde.specs.declared.name.Case.{Case}
use Rattle.serde.specs.declared.name.NameKind.TheVariants.{Field, Variant}
use Rattle.upon_types.specs.Val.{Val, none_val, bool_val, int_val, text_val, list_val, map_val, Entries, no_entries, entry_then}
use Rattle.upon_types.specs.View.{vals_of}

-- what may be the key of an entry: the name of a field or of a variant, as it is in the program and with the case that
-- it is spelled in; or a value that has a text
pub data EntryKey : Type 0 where
  field : List ℕ → Case → EntryKey
  variant : List ℕ → Case → EntryKey
  signed_key : ℤ → EntryKey
  unsigned_key : ℕ → EntryKey
  character_key : ℕ → EntryKey
  text_key : List ℕ → EntryKey
  unit_variant_key : List ℕ → Case → EntryKey

mutual
  -- what a type writes: a unit (which is also no option), a truth value, a number, a character, a text, bytes, a
  -- variant without data, a sequence or a map (which is also a struct, or the one entry that a variant with data is)
  pub data Datum : Type 0 where
    unit : Datum
    truth : Bool → Datum
    signed : ℤ → Datum
    unsigned : ℕ → Datum
    character : ℕ → Datum
    text : List ℕ → Datum
    octets : List ℕ → Datum
    unit_variant : List ℕ → Case → Datum
    sequence : Option ℕ → Data → Datum
    mapping : Option ℕ → Members → Datum

  -- the items of a sequence
  pub data Data : Type 0 where
    no_data : Data
    datum_then : Datum → Data → Data

  -- the members of a map: entries, and maps whose members are flattened into this one
  pub data Members : Type 0 where
    no_members : Members
    member_then : EntryKey → Datum → Members → Members
    flattened_then : Option ℕ → Members → Members → Members
    flattened_unit_then : Members → Members

-- ---- what is written

-- a key as events, and then others
abbrev pub key_events : EntryKey → List Event → List Event
key_events (field name case) after = event.field_key name case ∷ after
key_events (variant name case) after = event.variant_key name case ∷ after
key_events (signed_key z) after = event.key_begins ∷ event.signed z ∷ event.key_ends ∷ after
key_events (unsigned_key n) after = event.key_begins ∷ event.unsigned n ∷ event.key_ends ∷ after
key_events (character_key c) after = event.key_begins ∷ event.character c ∷ event.key_ends ∷ after
key_events (text_key s) after = event.key_begins ∷ event.text s ∷ event.key_ends ∷ after
key_events (unit_variant_key name case) after = event.key_begins ∷ event.unit_variant name case ∷ event.key_ends ∷ after

abbrev mutual
  -- a datum as events, and then others
  pub events : Datum → List Event → List Event
  events unit after = event.nothing ∷ after
  events (truth b) after = event.boolean b ∷ after
  events (signed z) after = event.signed z ∷ after
  events (unsigned n) after = event.unsigned n ∷ after
  events (character c) after = event.character c ∷ after
  events (text s) after = event.text s ∷ after
  events (octets bytes) after = event.octets bytes ∷ after
  events (unit_variant name case) after = event.unit_variant name case ∷ after
  events (sequence length ds) after = event.seq_begins length ∷ item_events ds after
  events (mapping length ms) after = event.map_begins length ∷ member_events ms after

  -- the items of a sequence with its end, and then other events
  pub item_events : Data → List Event → List Event
  item_events no_data after = event.seq_ends ∷ after
  item_events (datum_then d ds) after = events d (item_events ds after)

  -- the members of a map with its end, and then other events
  pub member_events : Members → List Event → List Event
  member_events no_members after = event.map_ends ∷ after
  member_events (member_then key d ms) after = key_events key (events d (member_events ms after))
  member_events (flattened_then length inner ms) after =
      event.flattens ∷ event.map_begins length ∷ member_events inner (member_events ms after)
  member_events (flattened_unit_then ms) after = event.flattens ∷ event.nothing ∷ member_events ms after

-- ---- which value it is

-- the text of a key: names as they are spelled, whole numbers in decimal
abbrev pub key_text : EntryKey → List ℕ
key_text (field name case) = spelled case Field name
key_text (variant name case) = spelled case Variant name
key_text (signed_key z) = signed_decimal z
key_text (unsigned_key n) = decimal n
key_text (character_key c) = encode_utf8 c
key_text (text_key s) = s
key_text (unit_variant_key name case) = spelled case Variant name

-- keys with their values, in the order of the keys' bytes
abbrev pub Pairs : Type 0
Pairs = List (List ℕ × Val)

-- keys with their values, as the entries of a map
abbrev pub entries_from : Pairs → Entries
entries_from [] = no_entries
entries_from (p ∷ pairs) = entry_then p.0 p.1 (entries_from pairs)

-- one more pair in its place; of equal keys the last counts
abbrev pub with_pair : List ℕ → Val → Pairs → Pairs
with_pair key v pairs = insert_entry (slice_cmp nat_cmp) pairs key v

abbrev mutual
  -- a unit is no value; truth values, numbers and texts are themselves; a character is a text, bytes are a list of
  -- integers, a variant without data is its name; a sequence is a list, and a map is a map
  pub datum_value : Datum → Val
  datum_value unit = none_val
  datum_value (truth b) = bool_val b
  datum_value (signed z) = int_val z
  datum_value (unsigned n) = int_val (pos n)
  datum_value (character c) = text_val (encode_utf8 c)
  datum_value (text s) = text_val s
  datum_value (octets bytes) = list_val (vals_of (map (λ b. int_val (pos b)) bytes))
  datum_value (unit_variant name case) = text_val (spelled case Variant name)
  datum_value (sequence length ds) = list_val (vals_of (data_values ds))
  datum_value (mapping length ms) = map_val (entries_from (with_members ms []))

  -- the items of a sequence, each as its value
  pub data_values : Data → List Val
  data_values no_data = []
  data_values (datum_then d ds) = datum_value d ∷ data_values ds

  -- the pairs with the members put in, one after the other
  pub with_members : Members → Pairs → Pairs
  with_members no_members pairs = pairs
  with_members (member_then key d ms) pairs = with_members ms (with_pair (key_text key) (datum_value d) pairs)
  with_members (flattened_then length inner ms) pairs = with_members ms (with_members inner pairs)
  with_members (flattened_unit_then ms) pairs = with_members ms pairs
