-- The rows that are sorted: each has an item that is lent, and the rank of what the item is sorted by.
use Rattle.std.specs.Prelude.{◌≡◌, List, Result, Ok, Err, Some, None, Vec, String, map, string_bytes}
use Rattle.std.specs.declared.alloc.Global.{Global}
use Rattle.upon_types.specs.Val.{Val, none_val, int_val, text_val}
use Rattle.upon_types.specs.View.{view}
use Rattle.upon_std.specs.Ordering.Sorting.{keys_refusal}
use Rattle.upon_std.specs.declared.ordering.sorting.Rank.{Rank}
use Rattle.upon_std.specs.declared.ordering.sorting.Rank.TheVariants.{Integer, Text, Other}
use Rattle.upon_std.specs.declared.ordering.sorting.Row.{Row}

-- a key as far as items are sorted by it: an integer, a text, or none for any other
abbrev pub ranked : Val → Val
ranked (int_val z) = int_val z
ranked (text_val s) = text_val s
ranked v = none_val

-- the key that a rank stands for
abbrev pub rank_val : Rank → Val
rank_val (Integer z) = int_val z
rank_val (Text s) = text_val s.now
rank_val Other = none_val

-- what a row is sorted by
abbrev pub row_key : Row → Val
row_key row = rank_val row.rank

-- the item of a row
abbrev pub row_item : Row → Val
row_item row = view row.item.now

-- rows have these items, each with the rank of its key
abbrev pub AreRows : (Val → Val) → List Val → List Row → Type 0
AreRows key vs rows = (map row_item rows ≡ vs) × (map row_key rows ≡ map (λ v. ranked (key v)) vs)

-- what was made of items is their rows, where no key is refused, or else the refusal
abbrev pub AreRowsOrRefusal : Result (Vec Row Global) (String Global) → (Val → Val) → List Val → Type 0
AreRowsOrRefusal (Ok rows) key vs = (keys_refusal (map key vs) ≡ None) × AreRows key vs rows.items
AreRowsOrRefusal (Err text) key vs = keys_refusal (map key vs) ≡ Some (string_bytes text)
