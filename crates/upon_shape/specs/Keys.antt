-- Keys in the order in which a program goes over them.
use Rattle.std.specs.Prelude.{ℕ, List, [], ◌∷◌, Bool, false, ◌||◌, bytes_eq, Option, Some, None, string_bytes}
use Rattle.upon_shape_spec.specs.Shape.{Shape as SpecShape, any_shape, one_of, no_list, lists_of, no_map, maps_of, Keys as SpecKeys, other_keys, key_then, keys_without}
use Rattle.upon_shape.specs.declared.shape.Key.{Key}
use Rattle.upon_shape.specs.declared.shape.Shape.{Shape}

-- what is known of the keys of maps, if one of the values may be a map; of any value nothing is known
abbrev pub known_keys : SpecShape → Option SpecKeys
known_keys any_shape = None
known_keys (one_of p l no_map) = None
known_keys (one_of p l (maps_of ks)) = Some ks

-- what is known of the items of lists, if one of the values may be a list
abbrev pub known_items : SpecShape → Option SpecShape
known_items any_shape = None
known_items (one_of p no_list m) = None
known_items (one_of p (lists_of s) m) = Some s

-- keys, and one more after those that are named
abbrev pub keys_and : List ℕ → Bool → SpecShape → SpecKeys → SpecKeys
keys_and key required t (other_keys s) = key_then key required t (other_keys s)
keys_and key required t (key_then k r s ks) = key_then k r s (keys_and key required t ks)

-- a name is that of one of these keys
abbrev pub is_among : List ℕ → List (Key Shape) → Bool
is_among name [] = false
is_among name (k ∷ ks) = bytes_eq name (string_bytes k.name) || is_among name ks

-- keys beside each of these
abbrev pub without_each : List (Key Shape) → SpecKeys → SpecKeys
without_each [] ns = ns
without_each (k ∷ ks) ns = without_each ks (keys_without (string_bytes k.name) ns)

-- the names that were seen, the last of them first
abbrev pub seen_after : List (Key Shape) → List (List ℕ) → List (List ℕ)
seen_after [] seen = seen
seen_after (k ∷ ks) seen = seen_after ks (string_bytes k.name ∷ seen)
