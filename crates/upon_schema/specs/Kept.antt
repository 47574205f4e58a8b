-- The values of a shape that are of the kinds of another.
use Rattle.std.specs.Prelude.{◌&&◌}
use Rattle.upon_shape_spec.specs.Shape.{Plain, Shape, any_shape, one_of, Lists, no_list, lists_of, Maps, no_map, maps_of, plain}

-- what both take
abbrev pub kept_plain : Plain → Plain → Plain
kept_plain p q = plain (p.none && q.none) (p.truth && q.truth) (p.integer && q.integer) (p.text && q.text)

-- the lists of the second, if the first has lists
abbrev pub kept_lists : Lists → Lists → Lists
kept_lists no_list k = no_list
kept_lists (lists_of s) k = k

-- the maps of the second, if the first has maps
abbrev pub kept_maps : Maps → Maps → Maps
kept_maps no_map n = no_map
kept_maps (maps_of ks) n = n

-- the values of the second shape that are of kinds of the first
abbrev pub kept : Shape → Shape → Shape
kept any_shape t = t
kept (one_of p l m) any_shape = one_of p l m
kept (one_of p l m) (one_of q k n) = one_of (kept_plain p q) (kept_lists l k) (kept_maps m n)
