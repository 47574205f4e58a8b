-- Lists of groups.
use Rattle.std.specs.Prelude.{List, [], Option, Some, map, codes}
use Rattle.std.specs.List.{filter}
use Rattle.upon_types.specs.Same.{val_eq}
use Rattle.upon_types.specs.Val.{Val, list_val, map_val, key_of, no_entries, entry_then}
use Rattle.upon_types.specs.View.{vals_of}
use Rattle.upon_std.specs.Basic.Items.{vals_in_list}
use Rattle.upon_std.specs.Ordering.Distinct.{distinct}

-- the values with this key, in their order
abbrev pub members : (Val → Val) → Val → List Val → List Val
members key k vs = filter (λ v. val_eq (key v) k) vs

-- a group: a map of its items and of their key
abbrev pub group_val : Val → List Val → Val
group_val k vs = map_val (entry_then (codes "items") (list_val (vals_of vs)) (entry_then (codes "key") k no_entries))

-- the values of a list that is there
abbrev pub values_in : Option Val → List Val
values_in (Some (list_val vs)) = vals_in_list vs
values_in found = []

-- the items of a group
abbrev pub group_items : Val → List Val
group_items v = values_in (key_of (codes "items") v)

-- a group for each key, in the order in which the keys first come
abbrev pub grouped : (Val → Val) → List Val → List Val
grouped key vs = map (λ k. group_val k (members key k vs)) (distinct val_eq (map key vs))
