-- The value of a text of TOML.
use Rattle.std.specs.Prelude.{◌≡◌, ℕ, List, Some}
use Rattle.toml.specs.Data.{Data, string, integer, float, boolean, datetime, array, table, Items, no_items, item, Members, no_members, member}
use Rattle.toml.specs.Parse.{parse_document}
use Rattle.toml_datetime.specs.Text.{datetime_text}
use Rattle.toml_writer.specs.Text.{IsFloatText}
use Rattle.upon_types.specs.Val.{Val, bool_val, int_val, text_val, list_val, map_val, Vals, no_vals, val_then, Entries, no_entries, entry_then}

abbrev mutual
  -- The value is that of the data: a float is a text that reads back as it, a date-time is its text, and all else is
  -- what it is.
  pub IsValueOf : Data → Val → Type 0
  IsValueOf (string text) v = v ≡ text_val text
  IsValueOf (integer n) v = v ≡ int_val n
  IsValueOf (float x) v = (text : List ℕ) × IsFloatText x text × (v ≡ text_val text)
  IsValueOf (boolean b) v = v ≡ bool_val b
  IsValueOf (datetime time) v = v ≡ text_val (datetime_text time)
  IsValueOf (array ds) v = (vs : Vals) × AreValuesOf ds vs × (v ≡ list_val vs)
  IsValueOf (table ms) v = (es : Entries) × AreEntriesOf ms es × (v ≡ map_val es)

  -- the values are those of the items
  pub AreValuesOf : Items → Vals → Type 0
  AreValuesOf no_items vs = vs ≡ no_vals
  AreValuesOf (item d ds) vs = (w : Val) × (ws : Vals) × IsValueOf d w × AreValuesOf ds ws × (vs ≡ val_then w ws)

  -- the entries are those of the members, under the same keys
  pub AreEntriesOf : Members → Entries → Type 0
  AreEntriesOf no_members es = es ≡ no_entries
  AreEntriesOf (member key d ms) es =
      (w : Val) × (fs : Entries) × IsValueOf d w × AreEntriesOf ms fs × (es ≡ entry_then key w fs)

-- the value is the map that a text of TOML is, passing over a byte order mark
abbrev pub IsDocument : List ℕ → Val → Type 0
IsDocument text v = (ms : Members) × (parse_document text ≡ Some ms) × IsValueOf (table ms) v
