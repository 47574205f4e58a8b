-- Entries that were gone into along a path of keys, and what is around them.
use Rattle.std.specs.Prelude.{◌≡◌, ℕ, List, [], ◌∷◌, Bool, true, false, Option, None, option_map}
use Rattle.upon_types.specs.Val.{Val, map_val, Entries, no_entries, entry_at}
use Rattle.upon_types.specs.View.{entries_view}
use Rattle.upon_json.specs.Value.{put}
use Rattle.upon_data.specs.Entries.{changed_at, replaced_value}
use Rattle.upon_data.specs.declared.at_path.Around.{Around}

-- entries with a value put at a path of keys, of which all but the first have new maps
abbrev pub put_inside : List (List ℕ) → Val → Entries → Entries
put_inside [] v es = es
put_inside (key ∷ []) v es = put key v es
put_inside (key ∷ next ∷ more) v es = put key (map_val (put_inside (next ∷ more) v no_entries)) es

-- the outermost entries, if the innermost are these
abbrev pub rebuilt : List Around → Entries → Entries
rebuilt [] es = es
rebuilt (outer ∷ more) es =
    replaced_value outer.key.now (map_val (rebuilt more es)) (entries_view outer.entries.entries)

-- the map at a key was gone into: to change it is to change what is now innermost; or there is no value at the key, and
-- all is as it was
abbrev pub HasGoneIn : List ℕ → Entries → List Around → Entries → List Around → Bool → Type 0
HasGoneIn key es around new_es new_around true = (change : Entries → Option Entries) →
    option_map (rebuilt around) (changed_at key change es (entry_at key es))
    ≡ option_map (rebuilt new_around) (change new_es)
HasGoneIn key es around new_es new_around false = (entry_at key es ≡ None) × (new_es ≡ es) × (new_around ≡ around)

-- the value at a key is no map, so none can be changed there
abbrev pub HasNoMap : List ℕ → Entries → Type 0
HasNoMap key es = (change : Entries → Option Entries) → changed_at key change es (entry_at key es) ≡ None
