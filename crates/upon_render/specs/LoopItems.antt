-- What the parts of a loop denote: the items that it has yet to give, and the one that it is at.
use Rattle.std.specs.Prelude.{◌≡◌, ℕ, ◌+◌, Bool, true, false, List, [], map, Option, Some, None, String, string_bytes}
use Rattle.std.specs.Cow.{cow_str_bytes}
use Rattle.std.specs.Slice.Iter.{iter_rest}
use Rattle.std.specs.Vec.Iter.{into_iter_items}
use Rattle.std.specs.declared.alloc.Global.{Global}
use Rattle.upon_types.specs.Cow.{cow_view}
use Rattle.upon_types.specs.Path.{LoopVars, item, key_value}
use Rattle.upon_types.specs.AstPath.{ident_of}
use Rattle.upon_types.specs.Val.{Val, list_val, map_val, rises}
use Rattle.upon_types.specs.declared.types.ast.KeyValue.{KeyValue}
use Rattle.upon_types.specs.View.{view}
use Rattle.upon_types.specs.declared.value.Value.{Value}
use Rattle.upon_lookup.specs.Answer.{is_borrowed_value}
use Rattle.upon_lookup.specs.Environment.{Binding}
use Rattle.upon_lookup.specs.Items.{item_binds, entry_binds}
use Rattle.upon_render.specs.declared.items.Here.{Here}
use Rattle.upon_render.specs.declared.items.Item.{Item}
use Rattle.upon_render.specs.declared.items.Item.TheVariants.{Lone, Entry}
use Rattle.upon_render.specs.declared.items.Rest.{Rest}
use Rattle.upon_render.specs.declared.items.Rest.TheVariants.{ListLent, ListOwned, MapLent, MapOwned}

-- an item of a list, or an entry of a map
pub data LoopItem : Type 0 where
  lone : Val → LoopItem
  entry : List ℕ → Val → LoopItem

-- what an item binds; names that do not fit it bind nothing
abbrev pub binds : LoopVars → LoopItem → List Binding
binds (item name) (lone v) = item_binds name v
binds (key_value key value both) (entry text v) = entry_binds key value (text, v)
binds (item name) (entry text v) = []
binds (key_value key value both) (lone v) = []

-- the item that the code's item denotes
abbrev pub item_of : Item → LoopItem
item_of (Lone value) = lone (cow_view value)
item_of (Entry key value) = entry (cow_str_bytes key) (cow_view value)

-- the items of a list
abbrev pub lone_items : List Value → List LoopItem
lone_items vs = map (λ v. lone (view v)) vs

-- the items of a map
abbrev pub entry_items : List (String Global × Value) → List LoopItem
entry_items es = map (λ e. entry (string_bytes e.0) (view e.1)) es

-- the items that are left
abbrev pub items_left : Rest → List LoopItem
items_left (ListLent items) = lone_items (iter_rest items)
items_left (ListOwned items) = lone_items (into_iter_items items)
items_left (MapLent entries) = entry_items entries
items_left (MapOwned entries) = entry_items entries.entries

-- whether they are lent
abbrev pub is_lent_rest : Rest → Bool
is_lent_rest (ListLent items) = true
is_lent_rest (ListOwned items) = false
is_lent_rest (MapLent entries) = true
is_lent_rest (MapOwned entries) = false

-- whether an item is lent
abbrev pub is_lent_item : Item → Bool
is_lent_item (Lone value) = is_borrowed_value value
is_lent_item (Entry key value) = is_borrowed_value value

-- whether the item is lent, if there is one
abbrev pub is_lent_here : Option Here → Bool → Bool
is_lent_here None others = others
is_lent_here (Some here) others = is_lent_item here.item

-- how many items have been given
abbrev pub given : Option Here → ℕ
given None = 0
given (Some here) = here.index + 1

-- the names for a key and for its value
abbrev pub names_of_both : KeyValue → LoopVars
names_of_both both = key_value (ident_of both.key) (ident_of both.value) both.span

-- the value is no list
abbrev pub IsNoList : Val → Type 0
IsNoList (list_val vs) = ⊥
IsNoList v = Unit {0}

-- the value is no map
abbrev pub IsNoMap : Val → Type 0
IsNoMap (map_val es) = ⊥
IsNoMap v = Unit {0}

-- the keys of a map are in the order of their bytes
abbrev pub KeysRise : Val → Type 0
KeysRise (map_val es) = rises es ≡ true
KeysRise v = Unit {0}
