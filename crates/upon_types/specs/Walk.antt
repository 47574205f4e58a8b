-- The parts of a value in the order in which they are read: each list and map begins, each of its items and entries in
-- turn follows, and it ends.
use Rattle.std.specs.Prelude.{ℕ, List, [], ◌∷◌, ◌++◌, Bool, true, false}
use Rattle.upon_types.specs.Val.{Val, none_val, bool_val, int_val, text_val, list_val, map_val, Vals, no_vals, val_then, Entries, no_entries, entry_then}

-- a part: a value in which there is no other; the begin or the end of a list or a map; the begin of an item, or of an
-- entry with its key, each with whether it is the first one
pub data ValuePart : Type 0 where
  leaf : Val → ValuePart
  list_begins : ValuePart
  item_begins : Bool → ValuePart
  list_ends : ValuePart
  map_begins : ValuePart
  entry_begins : List ℕ → Bool → ValuePart
  map_ends : ValuePart

abbrev mutual
  -- the parts of a value
  pub parts_of_value : Val → List ValuePart
  parts_of_value none_val = leaf none_val ∷ []
  parts_of_value (bool_val b) = leaf (bool_val b) ∷ []
  parts_of_value (int_val n) = leaf (int_val n) ∷ []
  parts_of_value (text_val bytes) = leaf (text_val bytes) ∷ []
  parts_of_value (list_val vs) = list_begins ∷ parts_of_items vs true
  parts_of_value (map_val es) = map_begins ∷ parts_of_entries es true

  -- those of the items that are left, of which the next one is the first of the list or not, and its end
  pub parts_of_items : Vals → Bool → List ValuePart
  parts_of_items no_vals is_first = list_ends ∷ []
  parts_of_items (val_then v vs) is_first = item_begins is_first ∷ (parts_of_value v ++ parts_of_items vs false)

  -- those of the entries that are left, of which the next one is the first of the map or not, and its end
  pub parts_of_entries : Entries → Bool → List ValuePart
  parts_of_entries no_entries is_first = map_ends ∷ []
  parts_of_entries (entry_then key v es) is_first =
      entry_begins key is_first ∷ (parts_of_value v ++ parts_of_entries es false)
