-- What a loop gives its names.
use Rattle.std.specs.Prelude.{List, [], ◌∷◌, ◌||◌, Option, Some, None, if◌then◌else◌}
use Rattle.upon_types.specs.Path.{LoopVars, item, key_value}
use Rattle.upon_shape_spec.specs.Accepted.{item_shape, value_shape}
use Rattle.upon_shape_spec.specs.Paths.{takes_plain, takes_lists, takes_maps}
use Rattle.upon_shape_spec.specs.Scope.{NameShape, name_shape, value_of, loop_key}
use Rattle.upon_shape_spec.specs.Shape.{Shape, any_shape, one_of}

-- the shape of each item of what can only be a list, or of each value of what can only be a map
abbrev pub looped : LoopVars → Shape → Option Shape
looped names any_shape = None
looped (item name) (one_of p l m) = if takes_plain p || takes_maps m then None else Some (item_shape l)
looped (key_value key value both) (one_of p l m) = if takes_plain p || takes_lists l then None else Some (value_shape m)

-- the names, where the items or the values have this shape
abbrev pub looped_names : LoopVars → Shape → List NameShape
looped_names (item name) s = name_shape name.text (value_of s) ∷ []
looped_names (key_value key value both) s = name_shape key.text loop_key ∷ name_shape value.text (value_of s) ∷ []
