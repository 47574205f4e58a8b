-- Shapes: what is known of a value before it is there.
use Rattle.std.specs.Prelude.{ℕ, List, Bool, true, false, bytes_eq, if◌then◌else◌}

-- which values without parts are taken
pub record Plain : Type 0 where
  pub none : Bool
  pub truth : Bool
  pub integer : Bool
  pub text : Bool

mutual
  -- any value, or one of some: values without parts, lists, maps
  pub data Shape : Type 0 where
    any_shape : Shape
    one_of : Plain → Lists → Maps → Shape

  -- no list, or lists whose items have this shape
  pub data Lists : Type 0 where
    no_list : Lists
    lists_of : Shape → Lists

  -- no map, or maps that have these keys
  pub data Maps : Type 0 where
    no_map : Maps
    maps_of : Keys → Maps

  -- a key, whether a map must have it, and the shape of what is there; of equal keys the first counts. Last, the
  -- shape of what any other key has, which may be missing
  pub data Keys : Type 0 where
    other_keys : Shape → Keys
    key_then : List ℕ → Bool → Shape → Keys → Keys

-- what is known of a key: whether a map must have it, and the shape of what is there
pub record KeyShape : Type 0 where
  pub required : Bool
  pub shape : Shape

-- the values without parts that are taken, by their four kinds
abbrev pub plain : Bool → Bool → Bool → Bool → Plain
plain none truth integer text = record { none = none; truth = truth; integer = integer; text = text }

-- none of these
abbrev pub no_plain : Plain
no_plain = plain false false false false

-- values without parts
abbrev pub plain_shape : Plain → Shape
plain_shape p = one_of p no_list no_map

-- the shape of no value at all
abbrev pub never : Shape
never = plain_shape no_plain

-- no value where there may be one
abbrev pub none_shape : Shape
none_shape = plain_shape (plain true false false false)

-- the truth values
abbrev pub truth_shape : Shape
truth_shape = plain_shape (plain false true false false)

-- the integers
abbrev pub integer_shape : Shape
integer_shape = plain_shape (plain false false true false)

-- the texts
abbrev pub text_shape : Shape
text_shape = plain_shape (plain false false false true)

-- all values without parts: those that the default formatter has a text for, if none is set
abbrev pub shown_values : Shape
shown_values = plain_shape (plain true true true true)

-- the values of a shape, and none
abbrev pub optional : Shape → Shape
optional any_shape = any_shape
optional (one_of p l m) = one_of (record p { none = true }) l m

-- lists whose items have this shape
abbrev pub list_of : Shape → Shape
list_of s = one_of no_plain (lists_of s) no_map

-- maps that have these keys
abbrev pub map_of : Keys → Shape
map_of ks = one_of no_plain no_list (maps_of ks)

-- maps with any keys, each of which has this shape
abbrev pub map_each : Shape → Shape
map_each s = map_of (other_keys s)

-- keys and no others
abbrev pub no_others : Keys
no_others = other_keys never

-- keys and any others
abbrev pub any_others : Keys
any_others = other_keys any_shape

-- what is known of a key
abbrev pub key_shape : Bool → Shape → KeyShape
key_shape required s = record { required = required; shape = s }

-- what is known of this key
abbrev pub at_key : List ℕ → Keys → KeyShape
at_key key (other_keys s) = key_shape false s
at_key key (key_then k required s ks) = if bytes_eq key k then key_shape required s else at_key key ks

-- the keys beside one
abbrev pub keys_without : List ℕ → Keys → Keys
keys_without key (other_keys s) = other_keys s
keys_without key (key_then k required s ks) =
    if bytes_eq key k then keys_without key ks else key_then k required s (keys_without key ks)
