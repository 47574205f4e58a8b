-- How many values a value is, with those in it.
use Rattle.std.specs.Prelude.{ℕ, Bool, true, false, cond, nat_lt, length, List, [], ◌∷◌, ◌+◌, ◌≡◌, map, String, Vec}
use Rattle.std.specs.BTreeMap.{BTreeMap}
use Rattle.std.specs.declared.alloc.Global.{Global}
use Rattle.upon_types.specs.declared.value.Value.{Value, List as ListValue, Map as MapValue, fold-Value}
use Rattle.upon_types.specs.declared.value.Value.TheOpen.{Value-F}

-- the sum of these
abbrev pub added_up : List ℕ → ℕ
added_up [] = 0
added_up (n ∷ ns) = n + added_up ns

-- the sum of what is at these keys
abbrev pub entries_added_up : List (String Global × ℕ) → ℕ
entries_added_up [] = 0
entries_added_up (e ∷ es) = e.1 + entries_added_up es

-- the outermost level, where the values inside have been counted already
abbrev pub bulk_level : Value-F ℕ → ℕ
bulk_level Value-F.None = 1
bulk_level (Value-F.Bool b) = 1
bulk_level (Value-F.Integer n) = 1
bulk_level (Value-F.String s) = 1
bulk_level (Value-F.List items) = added_up items.items + 1
bulk_level (Value-F.Map entries) = entries_added_up entries.entries + 1

-- the number of values in a value, itself with them
unfoldable pub bulk : Value → ℕ
bulk = fold-Value ℕ bulk_level

-- the number of values that the items of a list are, with those in them
abbrev pub items_bulk : List Value → ℕ
items_bulk vs = added_up (map bulk vs)

-- the number of values that the entries of a map are, with those in them
abbrev pub entries_bulk : List (String Global × Value) → ℕ
entries_bulk es = entries_added_up (map (λ e. (e.0, bulk e.1)) es)

-- whether there is a value in a value, from its outermost level
abbrev pub holds_level : Value-F Bool → Bool
holds_level Value-F.None = false
holds_level (Value-F.Bool b) = false
holds_level (Value-F.Integer n) = false
holds_level (Value-F.String s) = false
holds_level (Value-F.List items) = nat_lt 0 (length items.items)
holds_level (Value-F.Map entries) = nat_lt 0 (length entries.entries)

-- whether there is a value in a value: in a list or a map that is not empty
abbrev pub holds : Value → Bool
holds = fold-Value Bool holds_level

-- none of these holds a value
abbrev pub all_bare : List Value → Bool
all_bare [] = true
all_bare (v ∷ vs) = cond (holds v) false (all_bare vs)

-- a map
abbrev pub IsMap : Value → Type 0
IsMap v = (entries : BTreeMap (String Global) Value) × (v ≡ MapValue entries)

-- a list of which an item holds a value
abbrev pub HasHolder : Value → Type 0
HasHolder v = (items : Vec Value Global) × (v ≡ ListValue items) × (all_bare items.items ≡ false)

-- a map that is left is all of the value
abbrev pub IsWholeMap : Value → Value → Type 0
IsWholeMap left v = (entries : BTreeMap (String Global) Value) → left ≡ MapValue entries → v ≡ left
