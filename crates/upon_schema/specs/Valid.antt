-- Which values are valid by a JSON Schema, keyword by keyword. A number that is no integer of 64 bits is a text: the
-- one that spells it. `P s v` stands for: v is valid by s, a schema inside.
use Rattle.std.specs.Prelude.{◌≡◌, ◌⊎◌, ℕ, zero, suc, List, [], ◌∷◌, codes, Bool, true, false, ◌||◌, Option, Some, None, IsTrue, bytes_eq}
use Rattle.upon_types.specs.Val.{Val, none_val, bool_val, int_val, text_val, list_val, map_val, Vals, no_vals, val_then, Entries, no_entries, entry_at, key_of}
use Rattle.upon_shape_spec.specs.Fits.{EachValue}
use Rattle.upon_shape_spec.specs.Wider.{is_listed}
use Rattle.upon_schema.specs.Reference.{RefersTo}

-- ---- `type`
-- the names of the types that a value has
abbrev pub type_names : Val → List (List ℕ)
type_names none_val = codes "null" ∷ []
type_names (bool_val b) = codes "boolean" ∷ []
type_names (int_val n) = codes "integer" ∷ codes "number" ∷ []
type_names (text_val bytes) = codes "string" ∷ codes "number" ∷ []
type_names (list_val vs) = codes "array" ∷ []
type_names (map_val es) = codes "object" ∷ []

-- a value is of the type of this name
abbrev pub IsOfType : List ℕ → Val → Type 0
IsOfType name v = IsTrue (is_listed name (type_names v))

-- of one of these, of which only texts are names
abbrev pub IsOfTypes : Vals → Val → Type 0
IsOfTypes no_vals v = ⊥
IsOfTypes (val_then none_val names) v = IsOfTypes names v
IsOfTypes (val_then (bool_val b) names) v = IsOfTypes names v
IsOfTypes (val_then (int_val n) names) v = IsOfTypes names v
IsOfTypes (val_then (text_val name) names) v = IsOfType name v ⊎ IsOfTypes names v
IsOfTypes (val_then (list_val vs) names) v = IsOfTypes names v
IsOfTypes (val_then (map_val es) names) v = IsOfTypes names v

-- the keyword has the name of a type, or a list of such names; a value is of that type, or of one of them
abbrev pub TypeAllows : Option Val → Val → Type 0
TypeAllows None v = Unit {0}
TypeAllows (Some none_val) v = Unit {0}
TypeAllows (Some (bool_val b)) v = Unit {0}
TypeAllows (Some (int_val n)) v = Unit {0}
TypeAllows (Some (text_val name)) v = IsOfType name v
TypeAllows (Some (list_val names)) v = IsOfTypes names v
TypeAllows (Some (map_val es)) v = Unit {0}

abbrev pub TypeHolds : Val → Val → Type 0
TypeHolds schema v = TypeAllows (key_of (codes "type") schema) v

-- ---- `enum`
-- a value is one of these
abbrev pub IsItem : Val → Vals → Type 0
IsItem v no_vals = ⊥
IsItem v (val_then w ws) = (w ≡ v) ⊎ IsItem v ws

-- the keyword has a list of values; a value is one of them
abbrev pub EnumHolds : Val → Val → Type 0
EnumHolds schema v = (ws : Vals) → key_of (codes "enum") schema ≡ Some (list_val ws) → IsItem v ws

-- ---- `items`
-- a value is valid by the schema that a keyword has, if there is one
abbrev pub ValidAtKey : (Val → Val → Type 0) → List ℕ → Val → Val → Type 0
ValidAtKey P keyword schema v = (s : Val) → key_of keyword schema ≡ Some s → P s v

-- each item of a list is valid by the schema that the keyword has
abbrev pub ItemsHold : (Val → Val → Type 0) → Val → Val → Type 0
ItemsHold P schema none_val = Unit {0}
ItemsHold P schema (bool_val b) = Unit {0}
ItemsHold P schema (int_val n) = Unit {0}
ItemsHold P schema (text_val bytes) = Unit {0}
ItemsHold P schema (list_val vs) = EachValue (ValidAtKey P (codes "items") schema) vs
ItemsHold P schema (map_val es) = Unit {0}

-- ---- `properties`
-- the entries of a map; of what is none, no entries
abbrev pub entries_or_none : Option Val → Entries
entries_or_none None = no_entries
entries_or_none (Some none_val) = no_entries
entries_or_none (Some (bool_val b)) = no_entries
entries_or_none (Some (int_val n)) = no_entries
entries_or_none (Some (text_val bytes)) = no_entries
entries_or_none (Some (list_val vs)) = no_entries
entries_or_none (Some (map_val es)) = es

-- the schemas that the keyword has by keys
abbrev pub properties_of : Val → Entries
properties_of schema = entries_or_none (key_of (codes "properties") schema)

-- what a map has at a key of the properties is valid by the schema there
abbrev pub PropertiesHold : (Val → Val → Type 0) → Entries → Entries → Type 0
PropertiesHold P properties es =
    (key : List ℕ) (s v : Val) → entry_at key properties ≡ Some s → entry_at key es ≡ Some v → P s v

-- ---- `required`
-- the items of a list; of what is none, no items
abbrev pub items_or_none : Option Val → Vals
items_or_none None = no_vals
items_or_none (Some none_val) = no_vals
items_or_none (Some (bool_val b)) = no_vals
items_or_none (Some (int_val n)) = no_vals
items_or_none (Some (text_val bytes)) = no_vals
items_or_none (Some (list_val vs)) = vs
items_or_none (Some (map_val es)) = no_vals

-- a text is one of these values
abbrev pub has_text : List ℕ → Vals → Bool
has_text key no_vals = false
has_text key (val_then none_val vs) = has_text key vs
has_text key (val_then (bool_val b) vs) = has_text key vs
has_text key (val_then (int_val n) vs) = has_text key vs
has_text key (val_then (text_val text) vs) = bytes_eq key text || has_text key vs
has_text key (val_then (list_val ws) vs) = has_text key vs
has_text key (val_then (map_val es) vs) = has_text key vs

-- the keys that the keyword has
abbrev pub required_of : Val → Vals
required_of schema = items_or_none (key_of (codes "required") schema)

-- there is something
abbrev pub IsThere : Option Val → Type 0
IsThere None = ⊥
IsThere (Some v) = Unit {0}

-- a map has each of these keys
abbrev pub RequiredHold : Vals → Entries → Type 0
RequiredHold names es = (key : List ℕ) → IsTrue (has_text key names) → IsThere (entry_at key es)

-- ---- `additionalProperties`
-- what a map has at a key beside the properties is valid by the schema that the keyword has
abbrev pub AdditionalHold : (Val → Val → Type 0) → Val → Entries → Type 0
AdditionalHold P schema es = (key : List ℕ) (v : Val) → entry_at key (properties_of schema) ≡ None
    → entry_at key es ≡ Some v → ValidAtKey P (codes "additionalProperties") schema v

-- ---- all keywords
-- those on maps
abbrev pub EntriesHold : (Val → Val → Type 0) → Val → Entries → Type 0
EntriesHold P schema es = PropertiesHold P (properties_of schema) es
    × (RequiredHold (required_of schema) es × AdditionalHold P schema es)

-- of a value, which is a map or is none
abbrev pub ObjectHolds : (Val → Val → Type 0) → Val → Val → Type 0
ObjectHolds P schema none_val = Unit {0}
ObjectHolds P schema (bool_val b) = Unit {0}
ObjectHolds P schema (int_val n) = Unit {0}
ObjectHolds P schema (text_val bytes) = Unit {0}
ObjectHolds P schema (list_val vs) = Unit {0}
ObjectHolds P schema (map_val es) = EntriesHold P schema es

-- each keyword holds of a value
abbrev pub KeywordsHold : (Val → Val → Type 0) → Val → Val → Type 0
KeywordsHold P schema v =
    TypeHolds schema v × (EnumHolds schema v × (ItemsHold P schema v × ObjectHolds P schema v))

-- ---- schemas
-- with a reference, what stands beside it is passed over: a value is valid by what the reference is to
abbrev pub ReferenceHolds : (Val → Val → Type 0) → Val → Val → Option Val → Val → Type 0
ReferenceHolds P root schema None v = KeywordsHold P schema v
ReferenceHolds P root schema (Some none_val) v = Unit {0}
ReferenceHolds P root schema (Some (bool_val b)) v = Unit {0}
ReferenceHolds P root schema (Some (int_val n)) v = Unit {0}
ReferenceHolds P root schema (Some (text_val reference)) v = (s : Val) → RefersTo root reference s → P s v
ReferenceHolds P root schema (Some (list_val vs)) v = Unit {0}
ReferenceHolds P root schema (Some (map_val es)) v = Unit {0}

-- a schema is true, by which each value is valid, or false, by which none is, or a map of keywords
abbrev pub SchemaHolds : (Val → Val → Type 0) → Val → Val → Val → Type 0
SchemaHolds P root none_val v = Unit {0}
SchemaHolds P root (bool_val true) v = Unit {0}
SchemaHolds P root (bool_val false) v = ⊥
SchemaHolds P root (int_val n) v = Unit {0}
SchemaHolds P root (text_val bytes) v = Unit {0}
SchemaHolds P root (list_val vs) v = Unit {0}
SchemaHolds P root (map_val es) v = ReferenceHolds P root (map_val es) (entry_at (codes "$ref") es) v

-- a value is valid as far as schemas are looked at that lie so many deep one inside another, through references too
abbrev pub ValidWithin : ℕ → Val → Val → Val → Type 0
ValidWithin zero root schema v = Unit {0}
ValidWithin (suc depth) root schema v = SchemaHolds (ValidWithin depth root) root schema v

-- a value is valid by a schema: as far as one looks
abbrev pub Valid : Val → Val → Type 0
Valid schema v = (depth : ℕ) → ValidWithin depth schema schema v
