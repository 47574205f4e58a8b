-- The values that pages are rendered on.
use Rattle.std.specs.Prelude.{◌≡◌, ℕ, List, Option, Some, None, IsTrue, codes, bytes_eq, if◌then◌else◌}
use Rattle.upon_types.specs.Conversions.{or_else}
use Rattle.upon_types.specs.Val.{Val, none_val, bool_val, int_val, text_val, list_val, map_val, Vals, Entries, entry_at, key_of, rises}

-- the key of an item itself
abbrev pub item_key : List ℕ
item_key = codes "item"

-- the key of the text of a page in its layout
abbrev pub content_key : List ℕ
content_key = codes "content"

-- the value is a map, with this at each key
abbrev pub IsMapOfKeys : (List ℕ → Option Val) → Val → Type 0
IsMapOfKeys at (map_val es) = IsTrue (rises es) × ((key : List ℕ) → entry_at key es ≡ at key)
IsMapOfKeys at none_val = ⊥
IsMapOfKeys at (bool_val b) = ⊥
IsMapOfKeys at (int_val n) = ⊥
IsMapOfKeys at (text_val text) = ⊥
IsMapOfKeys at (list_val vs) = ⊥

-- what is at a key on the page of an item: the item itself at its own key; else what the item has there, if it is a
-- map; else what the context has there beside the list
abbrev pub at_item : Entries → Val → List ℕ → Option Val
at_item others item key = if bytes_eq key item_key then Some item else or_else (key_of key item) (entry_at key others)

-- the value that the page of an item is rendered on
abbrev pub IsItemValue : Entries → Val → Val → Type 0
IsItemValue others item v = IsMapOfKeys (at_item others item) v

-- what is at a key in a layout: the text of the page at its key, else what the context has there
abbrev pub at_content : Val → List ℕ → List ℕ → Option Val
at_content context text key = if bytes_eq key content_key then Some (text_val text) else key_of key context

-- the value that the layout of a page is rendered on
abbrev pub IsContentValue : Val → List ℕ → Val → Type 0
IsContentValue context text v = IsMapOfKeys (at_content context text) v

-- a context has a list at a key, and these entries beside it
abbrev pub IsSplit : List ℕ → Val → Entries → Vals → Type 0
IsSplit key context others items = (key_of key context ≡ Some (list_val items))
    × ((other : List ℕ) → entry_at other others ≡ (if bytes_eq other key then None else key_of other context))

-- the items of a list; other values have none
abbrev pub list_in : Val → Option Vals
list_in none_val = None
list_in (bool_val b) = None
list_in (int_val n) = None
list_in (text_val text) = None
list_in (list_val items) = Some items
list_in (map_val es) = None
