-- The shapes of items over which functions are declared. A signature has no place for a shape that is not known, so a
-- function that gives what it takes, as `first` does, has a signature for each of these.
use Rattle.std.specs.Prelude.{List, [], ◌∷◌, ◌++◌, true, map, codes}
use Rattle.upon_shape_spec.specs.Declared.{Signature}
use Rattle.upon_shape_spec.specs.Shape.{Shape, any_shape, key_then, no_others, integer_shape, list_of, map_each, map_of, shown_values, text_shape, truth_shape}

-- what a function takes, argument by argument, and what it gives to that
abbrev pub takes_gives : List Shape → Shape → Signature
takes_gives taken given = record { takes = taken; gives = given }

-- the shapes of values that have an order
abbrev pub ordered_shapes : List Shape
ordered_shapes = integer_shape ∷ text_shape ∷ []

-- the shapes of items, the narrower before the wider: the first signature that takes the arguments says what is given
abbrev pub item_shapes : List Shape
item_shapes =
    text_shape ∷ integer_shape ∷ truth_shape ∷ shown_values
    ∷ list_of text_shape ∷ list_of shown_values ∷ list_of any_shape
    ∷ map_each text_shape ∷ map_each shown_values ∷ map_each any_shape
    ∷ any_shape ∷ []

-- a signature for each shape of items
abbrev pub for_each_item : (Shape → Signature) → List Signature
for_each_item one = map one item_shapes

-- a signature for each shape of items, and after these one more
abbrev pub for_each_item_and : (Shape → Signature) → Signature → List Signature
for_each_item_and one last = map one item_shapes ++ (last ∷ [])

-- a group: a map of its items and of their key
abbrev pub group_shape : Shape → Shape → Shape
group_shape item key = map_of (key_then (codes "items") true (list_of item) (key_then (codes "key") true key no_others))
