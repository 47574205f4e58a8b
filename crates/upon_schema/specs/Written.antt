-- The schema of a shape: just the values of the shape are valid by it.
use Rattle.std.specs.Prelude.{ℕ, List, [], ◌∷◌, codes, Bool, true, false, if◌then◌else◌}
use Rattle.upon_types.specs.Val.{Val, none_val, bool_val, int_val, text_val, list_val, map_val, Vals, no_vals, val_then, Entries, no_entries, entry_then}
use Rattle.upon_types.specs.View.{view}
use Rattle.upon_types.specs.declared.value.Value.{Value}
use Rattle.upon_meaning_spec.specs.Entries.{with_entry}
use Rattle.upon_shape_spec.specs.Paths.{takes_lists, takes_maps}
use Rattle.upon_shape_spec.specs.Shape.{Plain, Shape, any_shape, one_of, Lists, no_list, lists_of, Maps, no_map, maps_of, Keys, other_keys, key_then, at_key}

-- a name ahead of others, if it is to be there
abbrev pub name_if : Bool → List ℕ → Vals → Vals
name_if true name names = val_then (text_val name) names
name_if false name names = names

-- the names of the kinds of a shape
abbrev pub kind_names : Plain → Lists → Maps → Vals
kind_names p l m = name_if p.truth (codes "boolean") (name_if p.integer (codes "integer")
    (name_if p.text (codes "string") (name_if (takes_lists l) (codes "array")
    (name_if (takes_maps m) (codes "object") (name_if p.none (codes "null") no_vals)))))

-- the only value, or the list of all
abbrev pub one_or_all : Vals → Val
one_or_all no_vals = list_val no_vals
one_or_all (val_then v no_vals) = v
one_or_all (val_then v (val_then w vs)) = list_val (val_then v (val_then w vs))

-- a schema of these types with these other keywords: of no type, false
abbrev pub typed : Vals → Entries → Val
typed no_vals es = bool_val false
typed (val_then name names) es = map_val (with_entry (codes "type") (one_or_all (val_then name names)) es)

-- each value is valid by a schema that is true
abbrev pub is_true_schema : Val → Bool
is_true_schema none_val = false
is_true_schema (bool_val b) = b
is_true_schema (int_val n) = false
is_true_schema (text_val bytes) = false
is_true_schema (list_val vs) = false
is_true_schema (map_val es) = false

-- with a schema at a keyword, unless each value is valid by it
abbrev pub with_schema : List ℕ → Val → Entries → Entries
with_schema keyword schema es = if is_true_schema schema then es else with_entry keyword schema es

-- with `properties`, if there are some
abbrev pub with_properties : Entries → Entries → Entries
with_properties no_entries es = es
with_properties (entry_then k v ps) es = with_entry (codes "properties") (map_val (entry_then k v ps)) es

-- with `required`, if there are some
abbrev pub with_required : Vals → Entries → Entries
with_required no_vals es = es
with_required (val_then v vs) es = with_entry (codes "required") (list_val (val_then v vs)) es

-- those of the properties that a map must have
abbrev pub required_in : Keys → Entries → Vals
required_in ks no_entries = no_vals
required_in ks (entry_then k v es) = name_if (at_key k ks).required k (required_in ks es)

abbrev mutual
  -- the schema of a shape
  pub schema_value : Shape → Val
  schema_value any_shape = bool_val true
  schema_value (one_of p l m) = typed (kind_names p l m) (with_keys m (with_items l no_entries))

  -- with `items`
  pub with_items : Lists → Entries → Entries
  with_items no_list es = es
  with_items (lists_of s) es = with_schema (codes "items") (schema_value s) es

  -- with `properties`, `required` and `additionalProperties`
  pub with_keys : Maps → Entries → Entries
  with_keys no_map es = es
  with_keys (maps_of ks) es = with_required (required_in ks (properties_value ks))
      (with_properties (properties_value ks) (with_schema (codes "additionalProperties") (others_value ks) es))

  -- the schemas by the names of keys; of equal keys the first counts
  pub properties_value : Keys → Entries
  properties_value (other_keys s) = no_entries
  properties_value (key_then k required s ks) = with_entry k (schema_value s) (properties_value ks)

  -- the schema of what any other key has
  pub others_value : Keys → Val
  others_value (other_keys s) = schema_value s
  others_value (key_then k required s ks) = others_value ks

-- values ahead of others
abbrev pub vals_ahead : List Value → Vals → Vals
vals_ahead [] rest = rest
vals_ahead (v ∷ vs) rest = val_then (view v) (vals_ahead vs rest)
