-- Lists with an item more, and maps with an entry more.
use Rattle.std.specs.Prelude.{ℕ, List, true}
use Rattle.upon_shape_spec.specs.Join.{join_shapes}
use Rattle.upon_shape_spec.specs.Shape.{Shape, any_shape, one_of, no_list, lists_of, no_map, maps_of, key_then, keys_without}

-- the shape of a list with an item more at its end
abbrev pub with_item_shape : Shape → Shape → Shape
with_item_shape any_shape s = any_shape
with_item_shape (one_of p no_list m) s = one_of p no_list m
with_item_shape (one_of p (lists_of t) m) s = one_of p (lists_of (join_shapes t s)) m

-- the shape of a map with this at a key
abbrev pub with_entry_shape : List ℕ → Shape → Shape → Shape
with_entry_shape key any_shape s = any_shape
with_entry_shape key (one_of p l no_map) s = one_of p l no_map
with_entry_shape key (one_of p l (maps_of ks)) s = one_of p l (maps_of (key_then key true s (keys_without key ks)))
