-- Entries with values merged in, and set at paths of keys.
use Rattle.std.specs.Prelude.{ℕ, List, [], ◌∷◌, ◌==◌, codes, bytes_eq, Option, Some, None, option_map, if◌then◌else◌}
use Rattle.std.specs.List.{slice_split}
use Rattle.upon_types.specs.Val.{Val, none_val, bool_val, int_val, text_val, list_val, map_val, Entries, no_entries, entry_then, entry_at}
use Rattle.upon_json.specs.Value.{put}

-- entries with others put at their keys, one after the other
abbrev pub entries_over : Entries → Entries → Entries
entries_over no_entries es = es
entries_over (entry_then key v more) es = entries_over more (put key v es)

-- entries with a value merged in: the entries of a map put at their keys, or a list put at `items`
abbrev pub merged : Val → Entries → Option Entries
merged none_val es = None
merged (bool_val b) es = None
merged (int_val n) es = None
merged (text_val text) es = None
merged (list_val vs) es = Some (put (codes "items") (list_val vs) es)
merged (map_val more) es = Some (entries_over more es)

-- the keys of a path: what stands between its dots
abbrev pub keys_of : List ℕ → List (List ℕ)
keys_of path = slice_split (λ byte. byte == 46) path

-- entries with another value at a key that they have
abbrev pub replaced_value : List ℕ → Val → Entries → Entries
replaced_value key v no_entries = no_entries
replaced_value key v (entry_then other w es) =
    if bytes_eq key other then entry_then other v es else entry_then other w (replaced_value key v es)

-- a map with its entries changed; any other value can't be changed so
abbrev pub inside : (Entries → Option Entries) → Val → Option Val
inside change none_val = None
inside change (bool_val b) = None
inside change (int_val n) = None
inside change (text_val text) = None
inside change (list_val vs) = None
inside change (map_val es) = option_map map_val (change es)

-- entries with the map at a key changed, which is made if it is not there
abbrev pub changed_at : List ℕ → (Entries → Option Entries) → Entries → Option Val → Option Entries
changed_at key change es None = option_map (λ inner. put key (map_val inner) es) (change no_entries)
changed_at key change es (Some v) = option_map (λ w. replaced_value key w es) (inside change v)

-- entries with a value set at a path of keys, whose maps are made if they are not there
abbrev pub with_member : List (List ℕ) → Val → Entries → Option Entries
with_member [] v es = None
with_member (key ∷ []) v es = Some (put key v es)
with_member (key ∷ next ∷ more) v es = changed_at key (with_member (next ∷ more) v) es (entry_at key es)
