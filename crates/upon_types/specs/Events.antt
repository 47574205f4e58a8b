-- What a value sends to a serializer of serde.
use Rattle.std.specs.Prelude.{ℕ, suc, Some}
use Rattle.serde.specs.Event.{Log, Logs, nothing, boolean, signed, text, seq_begins, seq_ends, map_begins, map_ends, key_begins, key_ends}
use Rattle.upon_types.specs.Val.{Val, none_val, bool_val, int_val, text_val, list_val, map_val, Vals, no_vals, val_then, Entries, no_entries, entry_then}

-- how many values there are
abbrev pub vals_count : Vals → ℕ
vals_count no_vals = 0
vals_count (val_then v vs) = suc (vals_count vs)

-- how many entries there are
abbrev pub entries_count : Entries → ℕ
entries_count no_entries = 0
entries_count (entry_then key v es) = suc (entries_count es)

abbrev mutual
  -- no value is a unit; a truth value, an integer and a text are themselves; a list is a sequence that says its length
  -- first, and a map is a map that does
  pub SendsVal : Val → Log → Log → Type 0
  SendsVal none_val before after = Logs before after nothing
  SendsVal (bool_val b) before after = Logs before after (boolean b)
  SendsVal (int_val n) before after = Logs before after (signed n)
  SendsVal (text_val bytes) before after = Logs before after (text bytes)
  SendsVal (list_val vs) before after =
      (inside : Log) × Logs before inside (seq_begins (Some (vals_count vs))) × SendsVals vs inside after
  SendsVal (map_val es) before after =
      (inside : Log) × Logs before inside (map_begins (Some (entries_count es))) × SendsEntries es inside after

  -- the values of a list in turn, and then its end
  pub SendsVals : Vals → Log → Log → Type 0
  SendsVals no_vals before after = Logs before after seq_ends
  SendsVals (val_then v vs) before after = (mid : Log) × SendsVal v before mid × SendsVals vs mid after

  -- the entries of a map in turn, each key as a text before its value, and then the map's end
  pub SendsEntries : Entries → Log → Log → Type 0
  SendsEntries no_entries before after = Logs before after map_ends
  SendsEntries (entry_then key v es) before after =
      (at_key named due mid : Log)
      × Logs before at_key key_begins
      × Logs at_key named (text key)
      × Logs named due key_ends
      × SendsVal v due mid
      × SendsEntries es mid after
