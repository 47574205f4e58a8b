-- What the functions of lists make of values.
use Rattle.std.specs.Prelude.{ℕ, List, ◌++◌, map, filter, take, drop}
use Rattle.upon_types.specs.Same.{val_eq}
use Rattle.upon_types.specs.Val.{Val, Vals}
use Rattle.upon_types.specs.View.{vals_of}
use Rattle.upon_std.specs.Basic.Items.{vals_in_list, value_at_key}

-- the values of one list, then of another
abbrev pub concatenated : Vals → Vals → Vals
concatenated vs ws = vals_of (vals_in_list vs ++ vals_in_list ws)

-- the values from an index up to but not another, both cut to the length
abbrev pub sliced : ℕ → ℕ → Vals → Vals
sliced from to vs = vals_of (drop from (take to (vals_in_list vs)))

-- of each value what is at the key
abbrev pub plucked : List ℕ → Vals → Vals
plucked key vs = vals_of (map (value_at_key key) (vals_in_list vs))

-- the values that have the wanted value at the key
abbrev pub having : List ℕ → Val → Vals → Vals
having key wanted vs = vals_of (filter (λ v. val_eq (value_at_key key v) wanted) (vals_in_list vs))
