-- The items of a loop, each as what it binds.
use Rattle.std.specs.Prelude.{ℕ, List, [], ◌∷◌, map}
use Rattle.upon_types.specs.declared.types.Span.{Span}
use Rattle.upon_types.specs.Path.{Ident, LoopVars, item, key_value}
use Rattle.upon_types.specs.Val.{Val, list_val, map_val, entry_list}
use Rattle.upon_lookup.specs.Environment.{Binding, binding, plain, key_text}
use Rattle.upon_lookup.specs.Finding.{Finding, found, at_fault}
use Rattle.upon_lookup.specs.LookupFaults.{not_iterable, list_item_into_two, map_item_into_one}
use Rattle.upon_lookup.specs.Vals.{val_list}

-- the item of a list
abbrev pub item_binds : Ident → Val → List Binding
item_binds name v = binding name.text (plain v) ∷ []

-- the entry of a map: its key is ahead of its value
abbrev pub entry_binds : Ident → Ident → (List ℕ × Val) → List Binding
entry_binds key value entry = binding key.text (key_text entry.0) ∷ binding value.text (plain entry.1) ∷ []

-- A list with one name, or a map with two, whose entries are in the order of their keys' bytes. Else it is a fault:
-- at the names where
-- they are too many or too few, at the iterable if the value has no items.
abbrev pub items_of : LoopVars → Val → Span → Finding (List (List Binding))
items_of (item name) (list_val vs) at = found (map (item_binds name) (val_list vs))
items_of (key_value key value both) (map_val es) at = found (map (entry_binds key value) (entry_list es))
items_of (key_value key value both) (list_val vs) at = at_fault (list_item_into_two both)
items_of (item name) (map_val es) at = at_fault (map_item_into_one name.span)
items_of names v at = at_fault (not_iterable v at)
