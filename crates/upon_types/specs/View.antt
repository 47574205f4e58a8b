-- What a `Value` denotes.
use Rattle.std.specs.Prelude.{List, [], ◌∷◌, map, String, string_bytes}
use Rattle.std.specs.declared.alloc.Global.{Global}
use Rattle.upon_types.specs.Val.{Val, none_val, bool_val, int_val, text_val, list_val, map_val, Vals, no_vals, val_then, Entries, no_entries, entry_then}
use Rattle.upon_types.specs.declared.value.Value.{Value, fold-Value}
use Rattle.upon_types.specs.declared.value.Value.TheOpen.{Value-F}

-- values one after the other
abbrev pub vals_of : List Val → Vals
vals_of [] = no_vals
vals_of (v ∷ vs) = val_then v (vals_of vs)

-- keys with their values
abbrev pub entries_of : List (String Global × Val) → Entries
entries_of [] = no_entries
entries_of (e ∷ es) = entry_then (string_bytes e.0) e.1 (entries_of es)

-- the outermost level, where the values inside have been seen already
abbrev pub level : Value-F Val → Val
level Value-F.None = none_val
level (Value-F.Bool b) = bool_val b
level (Value-F.Integer n) = int_val n
level (Value-F.String s) = text_val (string_bytes s)
level (Value-F.List items) = list_val (vals_of items.items)
level (Value-F.Map entries) = map_val (entries_of entries.entries)

-- the value that a `Value` denotes
abbrev pub view : Value → Val
view = fold-Value Val level

-- what the items of a list denote
abbrev pub vals_view : List Value → Vals
vals_view vs = vals_of (map view vs)

-- what the entries of a map denote
abbrev pub entries_view : List (String Global × Value) → Entries
entries_view es = entries_of (map (λ e. (e.0, view e.1)) es)
