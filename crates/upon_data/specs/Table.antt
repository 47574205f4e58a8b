-- The value of a text of CSV: the list of the records under its head, each a map.
use Rattle.std.specs.Prelude.{ℕ, List, [], ◌∷◌, length, Bool, true, ◌==◌, ◌&&◌, Option, Some, None, if◌then◌else◌}
use Rattle.csv.specs.Reading.{default_config, records, strip_bom}
use Rattle.upon_types.specs.Val.{Val, text_val, list_val, map_val, Vals, no_vals, val_then, Entries, no_entries}
use Rattle.upon_json.specs.Value.{put}

-- entries with each field, a text, put at the key that stands in its place, one after the other
abbrev pub fields_over : List (List ℕ) → List (List ℕ) → Entries → Entries
fields_over [] fields es = es
fields_over (key ∷ keys) [] es = es
fields_over (key ∷ keys) (field ∷ fields) es = fields_over keys fields (put key (text_val field) es)

-- the map of the head's fields to a record's
abbrev pub row_val : List (List ℕ) → List (List ℕ) → Val
row_val head fields = map_val (fields_over head fields no_entries)

-- the maps of the records
abbrev pub rows_vals : List (List ℕ) → List (List (List ℕ)) → Vals
rows_vals head [] = no_vals
rows_vals head (fields ∷ more) = val_then (row_val head fields) (rows_vals head more)

-- each record has so many fields
abbrev pub all_have : ℕ → List (List (List ℕ)) → Bool
all_have count [] = true
all_have count (fields ∷ more) = (length fields == count) && all_have count more

-- the list of the records under the first, which is the head; all have as many fields
abbrev pub under_head : List (List (List ℕ)) → Option Val
under_head [] = Some (list_val no_vals)
under_head (head ∷ more) = if all_have (length head) more then Some (list_val (rows_vals head more)) else None

-- the value that a text of CSV is, passing over a byte order mark
abbrev pub table_val : List ℕ → Option Val
table_val text = under_head (records default_config (strip_bom text))
