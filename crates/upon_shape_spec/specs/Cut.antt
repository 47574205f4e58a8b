-- Shapes that are cut at a depth: below so many levels of lists and maps they take any value.
use Rattle.std.specs.Prelude.{ℕ, ◌-◌, ◌==◌, Bool, true, false, ◌&&◌, IsTrue, if◌then◌else◌}
use Rattle.upon_types.specs.Val.{Val, none_val, bool_val, int_val, text_val, list_val, map_val, Vals, no_vals, val_then, Entries, no_entries, entry_then, rises}
use Rattle.upon_shape_spec.specs.Fits.{ByTest}
use Rattle.upon_shape_spec.specs.Shape.{Shape, any_shape, one_of, Lists, no_list, lists_of, Maps, no_map, maps_of, Keys, other_keys, key_then}

-- there may be lists or maps
abbrev pub has_parts : Lists → Maps → Bool
has_parts no_list no_map = false
has_parts no_list (maps_of ks) = true
has_parts (lists_of s) m = true

abbrev mutual
  -- a shape down to so many levels of lists and maps, with any value in the place of those below
  pub cut_to : ℕ → Shape → Shape
  cut_to n any_shape = any_shape
  cut_to n (one_of p l m) =
      if has_parts l m && (n == 0) then any_shape else one_of p (cut_lists (n - 1) l) (cut_maps (n - 1) m)

  -- of items
  pub cut_lists : ℕ → Lists → Lists
  cut_lists n no_list = no_list
  cut_lists n (lists_of s) = lists_of (cut_to n s)

  -- of maps
  pub cut_maps : ℕ → Maps → Maps
  cut_maps n no_map = no_map
  cut_maps n (maps_of ks) = maps_of (cut_keys n ks)

  -- of what keys have
  pub cut_keys : ℕ → Keys → Keys
  cut_keys n (other_keys s) = other_keys (cut_to n s)
  cut_keys n (key_then k required s ks) = key_then k required (cut_to n s) (cut_keys n ks)

abbrev mutual
  -- down to so many levels the keys of each map in the value are in the order of their bytes
  pub RiseTo : ℕ → Val → Type 0
  RiseTo n none_val = Unit {0}
  RiseTo n (bool_val b) = Unit {0}
  RiseTo n (int_val z) = Unit {0}
  RiseTo n (text_val bytes) = Unit {0}
  RiseTo n (list_val vs) = ByTest (n == 0) (Unit {0}) (AllRiseTo (n - 1) vs)
  RiseTo n (map_val es) = ByTest (n == 0) (Unit {0}) (IsTrue (rises es) × EntriesRiseTo (n - 1) es)

  -- in each of the values
  pub AllRiseTo : ℕ → Vals → Type 0
  AllRiseTo n no_vals = Unit {0}
  AllRiseTo n (val_then v vs) = RiseTo n v × AllRiseTo n vs

  -- in what each key has
  pub EntriesRiseTo : ℕ → Entries → Type 0
  EntriesRiseTo n no_entries = Unit {0}
  EntriesRiseTo n (entry_then k v es) = RiseTo n v × EntriesRiseTo n es
