-- What a `Shape` of a program denotes.
use Rattle.std.specs.Prelude.{ℕ, List, [], ◌∷◌, map, Bool, string_bytes, Option, Some, None, Box}
use Rattle.std.specs.declared.alloc.Global.{Global}
use Rattle.upon_shape_spec.specs.Shape as spec
use Rattle.upon_shape.specs.declared.keys.KeyShape.{KeyShape}
use Rattle.upon_shape.specs.declared.shape.Key.{Key}
use Rattle.upon_shape.specs.declared.shape.Keys.{Keys}
use Rattle.upon_shape.specs.declared.shape.Plain.{Plain}
use Rattle.upon_shape.specs.declared.shape.Shape.{Shape, fold-Shape}
use Rattle.upon_shape.specs.declared.shape.Shape.TheOpen.{Shape-F}

-- the values without parts that are taken
abbrev pub plain_view : Plain → spec.Plain
plain_view p = spec.plain p.none p.truth p.integer p.text

-- keys by name ahead of others, where the shapes inside have been seen already
abbrev pub level_keys : List (Key spec.Shape) → spec.Keys → spec.Keys
level_keys [] others = others
level_keys (k ∷ ks) others = spec.key_then (string_bytes k.name) k.required k.shape (level_keys ks others)

-- the lists, where the shape of their items has been seen already
abbrev pub level_lists : Option (Box spec.Shape Global) → spec.Lists
level_lists None = spec.no_list
level_lists (Some s) = spec.lists_of s.value

-- the maps, where the shapes inside have been seen already
abbrev pub level_maps : Option (Keys spec.Shape) → spec.Maps
level_maps None = spec.no_map
level_maps (Some ks) = spec.maps_of (level_keys ks.named.items (spec.other_keys ks.others.value))

-- the outermost level, where the shapes inside have been seen already
abbrev pub shape_level : Shape-F spec.Shape → spec.Shape
shape_level Shape-F.Any = spec.any_shape
shape_level (Shape-F.OneOf p l m) = spec.one_of (plain_view p) (level_lists l) (level_maps m)

-- the shape that a `Shape` denotes
abbrev pub shape_view : Shape → spec.Shape
shape_view = fold-Shape spec.Shape shape_level

-- a key, whether it is required, and the shape of what is there
pub record Named : Type 0 where
  pub name : List ℕ
  pub required : Bool
  pub shape : spec.Shape

-- what a key denotes
abbrev pub named_view : Key Shape → Named
named_view k = record { name = string_bytes k.name; required = k.required; shape = shape_view k.shape }

-- keys that are named ahead of others
abbrev pub named_ahead : List Named → spec.Keys → spec.Keys
named_ahead [] others = others
named_ahead (n ∷ ns) others = spec.key_then n.name n.required n.shape (named_ahead ns others)

-- what keys denote, ahead of others
abbrev pub ahead : List (Key Shape) → spec.Keys → spec.Keys
ahead ks others = named_ahead (map named_view ks) others

-- what keys denote
abbrev pub keys_view : Keys Shape → spec.Keys
keys_view ks = ahead ks.named.items (spec.other_keys (shape_view ks.others.value))

-- what the shape of items denotes
abbrev pub lists_view : Option (Box Shape Global) → spec.Lists
lists_view None = spec.no_list
lists_view (Some s) = spec.lists_of (shape_view s.value)

-- what the keys of maps denote
abbrev pub maps_view : Option (Keys Shape) → spec.Maps
maps_view None = spec.no_map
maps_view (Some ks) = spec.maps_of (keys_view ks)

-- what is known of a key
abbrev pub known_key_view : KeyShape → spec.KeyShape
known_key_view k = spec.key_shape k.required (shape_view k.shape.now)
