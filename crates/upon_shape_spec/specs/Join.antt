-- The shape of what has one of two shapes, and shapes of samples.
use Rattle.std.specs.Prelude.{List, [], ◌∷◌, true, false, ◌&&◌, ◌||◌}
use Rattle.upon_types.specs.Val.{Val, none_val, bool_val, int_val, text_val, list_val, map_val, Vals, no_vals, val_then, Entries, no_entries, entry_then}
use Rattle.upon_shape_spec.specs.Shape.{Plain, Shape, any_shape, one_of, Lists, no_list, lists_of, Maps, no_map, maps_of, Keys, other_keys, key_then, plain, never, none_shape, truth_shape, integer_shape, text_shape, list_of, map_of, no_others, at_key, keys_without}

-- what either takes
abbrev pub join_plain : Plain → Plain → Plain
join_plain p q = plain (p.none || q.none) (p.truth || q.truth) (p.integer || q.integer) (p.text || q.text)

-- each of the keys may be missing, and has a shape made of its own
abbrev pub joined_others : (Shape → Shape) → Keys → Keys
joined_others joined (other_keys s) = other_keys (joined s)
joined_others joined (key_then k required s ks) = key_then k false (joined s) (joined_others joined ks)

abbrev mutual
  -- of the values of either
  pub join_shapes : Shape → Shape → Shape
  join_shapes any_shape t = any_shape
  join_shapes (one_of p l m) any_shape = any_shape
  join_shapes (one_of p l m) (one_of q k n) = one_of (join_plain p q) (join_lists l k) (join_maps m n)

  -- of the items of either
  pub join_lists : Lists → Lists → Lists
  join_lists no_list k = k
  join_lists (lists_of s) no_list = lists_of s
  join_lists (lists_of s) (lists_of t) = lists_of (join_shapes s t)

  -- of the keys of either
  pub join_maps : Maps → Maps → Maps
  join_maps no_map n = n
  join_maps (maps_of ks) no_map = maps_of ks
  join_maps (maps_of ks) (maps_of ns) = maps_of (join_keys ks ns)

  -- a key that both require is required; one that the first does not name is joined with what its other keys have
  pub join_keys : Keys → Keys → Keys
  join_keys (other_keys s) ns = joined_others (join_shapes s) ns
  join_keys (key_then k required s ks) ns =
      key_then k (required && (at_key k ns).required) (join_shapes s (at_key k ns).shape)
      (join_keys ks (keys_without k ns))

abbrev mutual
  -- the shape of a value: its kind; of a list the items' shapes joined, of a map its keys and no others
  pub shape_of : Val → Shape
  shape_of none_val = none_shape
  shape_of (bool_val b) = truth_shape
  shape_of (int_val n) = integer_shape
  shape_of (text_val bytes) = text_shape
  shape_of (list_val vs) = list_of (items_shape vs)
  shape_of (map_val es) = map_of (keys_shape es)

  -- the shapes of values joined
  pub items_shape : Vals → Shape
  items_shape no_vals = never
  items_shape (val_then v vs) = join_shapes (shape_of v) (items_shape vs)

  -- each key with the shape of what it has
  pub keys_shape : Entries → Keys
  keys_shape no_entries = no_others
  keys_shape (entry_then k v es) = key_then k true (shape_of v) (keys_shape es)

-- the shape of samples: their shapes joined
abbrev pub samples_shape : List Val → Shape
samples_shape [] = never
samples_shape (v ∷ vs) = join_shapes (shape_of v) (samples_shape vs)

abbrev mutual
  -- a shape whose maps may have any other keys: it is for data that have more than the samples
  pub opened : Shape → Shape
  opened any_shape = any_shape
  opened (one_of p l m) = one_of p (opened_lists l) (opened_maps m)

  -- in the items
  pub opened_lists : Lists → Lists
  opened_lists no_list = no_list
  opened_lists (lists_of s) = lists_of (opened s)

  -- in what the keys have
  pub opened_maps : Maps → Maps
  opened_maps no_map = no_map
  opened_maps (maps_of ks) = maps_of (opened_keys ks)

  -- at each key, and any others
  pub opened_keys : Keys → Keys
  opened_keys (other_keys s) = other_keys any_shape
  opened_keys (key_then k required s ks) = key_then k required (opened s) (opened_keys ks)
