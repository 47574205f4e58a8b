-- The items of a list value, as a list.
use Rattle.std.specs.Prelude.{List, [], ◌∷◌}
use Rattle.upon_types.specs.Val.{Val, Vals, no_vals, val_then}

-- the values of a list value
abbrev pub val_list : Vals → List Val
val_list no_vals = []
val_list (val_then v vs) = v ∷ val_list vs
